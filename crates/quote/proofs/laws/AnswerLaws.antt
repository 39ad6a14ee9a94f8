-- An answer by its refusal is one of two: the quote where nothing is refused, or a refusal that has a number.
use Rattle.std.specs.Prelude.{◌≡◌, refl, ℕ, zero, suc, cond, eqb, Ok, Err}
use Rattle.std.proofs.Common.{ap, arith, ne_eqb}
use Rattle.set_refusal.specs.declared.Refusal.{Refusal}
use Rattle.set_refusal.specs.declared.Refusal.TheVariants.{Accepted}
use Rattle.set_refusal.specs.Refusals.{refusal_number}
use Rattle.set_refusal.specs.laws.RefusalLaws.{accepted}
use Rattle.quote_along.specs.declared.Quote.{Quote}
use Rattle.quote_along.specs.QuoteBy.{Answer}
use Rattle.quote.specs.Quote.{answer_by}

pub data AnswerBy (r : Refusal) (q : Quote) : Answer → Type 0 where
  quoted : r ≡ Accepted → AnswerBy r q (Ok q)
  refused : (refusal_number r ≡ 0 → ⊥) → AnswerBy r q (Err r)

pub answer-by : (r : Refusal) (q : Quote) → AnswerBy r q (answer_by r q)
unfolding answer_by
answer-by r q = go (refusal_number r) refl
  where
    go : (n : ℕ) → refusal_number r ≡ n → AnswerBy r q (cond (eqb n 0) (Ok q) (Err r))
    go zero e = quoted (accepted r e)
    go (suc n) e = rw (ne_eqb (suc n) 0 (λ z. omega arith)) (refused (λ z. omega (arith, e, z)))

-- what is refused has no quote: two answers by one refusal are the same where their quotes are, if nothing is refused
pub by-refusal : (r : Refusal) (q q' : Quote) → (r ≡ Accepted → q ≡ q') → answer_by r q ≡ answer_by r q'
unfolding answer_by
by-refusal r q q' h = go (refusal_number r) refl
  where
    go : (n : ℕ) → refusal_number r ≡ n → cond (eqb n 0) (Ok q) (Err r) ≡ cond (eqb n 0) (Ok q') (Err r)
    go zero e = ap Ok (h (accepted r e))
    go (suc n) e = rw (ne_eqb (suc n) 0 (λ z. omega arith))
