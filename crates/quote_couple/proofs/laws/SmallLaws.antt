-- No end of a couple's quote is above 172 in its unit, and its figure is that of its ends.
use Rattle.std.specs.Prelude.{◌≡◌, refl, true, ◌*◌, ◌≤◌, ℤ, nat_abs, length, Ok}
use Rattle.number_whole.proofs.laws.Clash.{clash}
use Rattle.number_exponential.specs.declared.Ends.{Ends}
use Rattle.number_exponential.specs.declared.GridUnit.{GridUnit}
use Rattle.number_exponential.specs.Units.{grid_of}
use Rattle.number_exponential.proofs.laws.GridFacts.{unit-sound}
use Rattle.number_exact.specs.Figure.{figure_of}
use Rattle.number_folds.specs.code.Code.{AtMost, most_factors}
use Rattle.set_params.specs.declared.Params.{Params}
use Rattle.set_params.specs.Set.{year_number}
use Rattle.set_refusal.specs.declared.Refusal.{Refusal}
use Rattle.set_refusal.specs.declared.Refusal.TheVariants.{Accepted}
use Rattle.quote_paths.specs.Path.{factors}
use Rattle.quote_paths.proofs.laws.Answers.{path-length, factors-length}
use Rattle.quote_paths.proofs.laws.Width.{factors-chances}
use Rattle.quote_couple_kinds.specs.declared.CoupleKind.{CoupleKind}
use Rattle.quote_two_lives.proofs.laws.Sizes.{couple-at-most}
use Rattle.quote_along.specs.declared.Quote.{Quote}
use Rattle.quote_along.specs.QuoteBy.{Answer, quote_by}
use Rattle.quote.proofs.laws.AnswerLaws.{AnswerBy, quoted, refused, answer-by}
use Rattle.quote.proofs.laws.Promises.{WorkedIn, worked-in, quote-worked}
use Rattle.quote_couple.specs.Couple.{life_path, couple_ends, couple_refusal, couple_step, couple_answer}
use Rattle.quote_couple.proofs.laws.CoupleTests.{life-path, all-passed}
use Rattle.quote_couple.proofs.laws.Theorem.{in-life}

pub record SmallQuote (k : CoupleKind) (q : Quote) : Type 0 where
  pub lower : q.lower ≤ 172 * (grid_of q.unit).unit
  pub upper : q.upper ≤ 172 * (grid_of q.unit).unit
  pub figure : q.figure ≡ figure_of (couple_step k * (grid_of q.unit).scale) (record { lower = q.lower; upper = q.upper })

ends-small : (p p' : Params) (k : CoupleKind) (age age' year span : ℤ) → couple_refusal p p' k age age' year span ≡ Accepted
    → (u : GridUnit) → AtMost (172 * (grid_of u).unit) (couple_ends p p' k age age' year span u)
unfolding couple_ends
ends-small p p' k age age' year span e u =
    let g = grid_of u in
    let l = in-life p k age year span (all-passed p p' k age age' year span e).first in
    let n : length (factors g p (life_path p k age year span)) ≤ most_factors =
    rw (
      factors-length g p (life_path p k age year span),
      life-path p k age year span,
      path-length true (nat_abs age) (year_number p.start year) _,
    ) l.room in
    couple-at-most g k most_factors n (factors-chances g (unit-sound u) p _) (factors-chances g (unit-sound u) p' _)

-- in whichever unit it was worked
quote-small : {k : CoupleKind} {e : GridUnit → Ends} → ((u : GridUnit) → AtMost (172 * (grid_of u).unit) (e u)) → {q : Quote}
    → WorkedIn (couple_step k) e q → SmallQuote k q
quote-small h (worked-in u w) = record { lower = (h u).lower; upper = (h u).upper; figure = refl }

pub couple-small : (p p' : Params) (k : CoupleKind) (age other year span : ℤ) {q : Quote}
    → couple_answer p p' k age other year span ≡ Ok q → SmallQuote k q
unfolding couple_answer
couple-small p p' k age other year span {q} e = go (answer-by r _) e
  where
    r : Refusal
    r = couple_refusal p p' k age other year span

    small : couple_refusal p p' k age other year span ≡ Accepted → SmallQuote k (quote_by (couple_step k) (couple_ends p p' k age other year span))
    small a = quote-small (ends-small p p' k age other year span a) (quote-worked _ _)

    go : {a : Answer} → AnswerBy r (quote_by (couple_step k) (couple_ends p p' k age other year span)) a → a ≡ Ok q → SmallQuote k q
    go (quoted a) f = let g : quote_by (couple_step k) (couple_ends p p' k age other year span) ≡ q = cc in rw (← g) (small a)
    go (refused n) f = clash cc
