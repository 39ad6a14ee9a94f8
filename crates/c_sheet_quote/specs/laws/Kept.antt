-- The number of a call tells what became of the numbers that it was lent: where it is not 0 they are as they were, and where it
-- is 0 a quote stands in them.
use Rattle.std.specs.Prelude.{◌≡◌, refl, Bool, true, false, cond, List, ℕ, zero, suc, eqb, leb, ℤ, length, Ok, Err}
use Rattle.std.proofs.Common.{arith, ne_eqb}
use Rattle.text_tokens.specs.Text.{Parse, malformed, taken}
use Rattle.set_refusal.specs.declared.Refusal.{Refusal}
use Rattle.set_refusal.specs.declared.Refusal.TheVariants.{Accepted, Malformed, BufferTooShort}
use Rattle.set_refusal.specs.Refusals.{refusal_number}
use Rattle.sheet.specs.declared.Reading.{Reading}
use Rattle.sheet.specs.Sheet.{read_sheet, by_sheet}
use Rattle.quote_kinds.specs.declared.Kind.{Kind}
use Rattle.quote_along.specs.declared.Quote.{Quote}
use Rattle.quote_along.specs.QuoteBy.{Answer}
use Rattle.quote.specs.Quote.{refusal_of, quote_of, answer_by, answer_of}
use Rattle.quote.proofs.laws.AnswerLaws.{AnswerBy, quoted, refused, answer-by}
use Rattle.quote.specs.Demand.{number_of}
use Rattle.c_sheet_quote.specs.SheetQuote.{answer_to, sheet_answer, quote_length, quote_over}
use Rattle.c_sheet_quote.specs.SheetQuote.{quoted_no, quoted_after, quote_no, quote_after}

pub refused-keeps : (a : Answer) (before : List ℕ) → (quote_no a (length before) ≡ 0 → ⊥) → quote_after a before ≡ before
unfolding quote_no quote_after quoted_no quoted_after refusal_number
refused-keeps (Err r) before h = refl
refused-keeps (Ok q) before h = go (leb quote_length (length before)) h
  where
    go : (b : Bool) → (refusal_number (cond b Accepted BufferTooShort) ≡ 0 → ⊥) → cond b (quote_over q before) before ≡ before
    go true n = absurd (n refl)
    go false n = refl

-- an answer with the number 0 is a quote
pub record IsQuote (a : Answer) : Type 0 where
  pub quote : Quote
  pub is : a ≡ Ok quote

abbrev Numbered : Answer → Type 0
Numbered a = number_of a ≡ 0 → IsQuote a

numbered-refusal : (r : Refusal) → (refusal_number r ≡ 0 → ⊥) → Numbered (Err r)
unfolding number_of
numbered-refusal r h e = absurd (h e)

numbered-by : (r : Refusal) (q : Quote) → Numbered (answer_by r q)
numbered-by r q = go (answer-by r q)
  where
    go : {a : Answer} → AnswerBy r q a → Numbered a
    go (quoted e) z = record { quote = q; is = refl }
    go (refused n) z = numbered-refusal r n z

numbered-to : (k : Parse Kind) (got : Reading) (age year term : ℤ) → Numbered (answer_to k got age year term)
unfolding answer_to by_sheet refusal_number answer_of
numbered-to malformed got age year term = numbered-refusal Malformed (λ e. omega arith)
numbered-to (taken kind rest) got age year term = go (refusal_number got.refusal) refl
  where
    go : (n : ℕ) → n ≡ refusal_number got.refusal
        → Numbered (cond (eqb n 0) (answer_of got.set kind age year term) (Err got.refusal))
    go zero e = numbered-by (refusal_of got.set kind age year term) (quote_of got.set kind age year term)
    go (suc n) e = rw (ne_eqb (suc n) 0 (λ z. omega arith)) (numbered-refusal got.refusal (λ z. omega arith))

-- where the call's number is 0 the answer's is
number-of : (a : Answer) (places : ℕ) → quote_no a places ≡ 0 → number_of a ≡ 0
unfolding quote_no number_of
number-of (Ok q) places e = refl
number-of (Err r) places e = e

pub accepted-quotes : (sheet : List ℕ) (kind : Parse Kind) (age year term : ℤ) (places : ℕ)
    → quote_no (sheet_answer sheet kind age year term) places ≡ 0 → IsQuote (sheet_answer sheet kind age year term)
unfolding sheet_answer
accepted-quotes sheet kind age year term places e =
    numbered-to kind (read_sheet sheet) age year term (number-of _ places e)

-- which then stands in the first places
pub quote-stands : (q : Quote) (before : List ℕ) → quote_no (Ok q) (length before) ≡ 0
    → quote_after (Ok q) before ≡ quote_over q before
unfolding quote_no quote_after quoted_no quoted_after refusal_number
quote-stands q before e = go (leb quote_length (length before)) e
  where
    go : (b : Bool) → refusal_number (cond b Accepted BufferTooShort) ≡ 0 → cond b (quote_over q before) before ≡ quote_over q before
    go true e = refl
    go false e = absurd (omega arith)
