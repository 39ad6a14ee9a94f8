-- What a query of two sheets is answered, and what stands in the numbers after, in each case.
use Rattle.std.specs.Prelude.{◌≡◌, List, ℕ, ℤ, Err}
use Rattle.std.proofs.Common.{◌∙◌}
use borrow.Author.Tests.{ne_eqb}
use Rattle.text_tokens.specs.Text.{Parse, malformed, taken}
use Rattle.set_refusal.specs.declared.Refusal.{Refusal}
use Rattle.set_refusal.specs.declared.Refusal.TheVariants.{Malformed}
use Rattle.set_refusal.specs.Refusals.{refusal_number, lower_refusal}
use Rattle.sheet.specs.declared.Reading.{Reading}
use Rattle.sheet.specs.Sheet.{read_sheet}
use Rattle.quote_along.specs.QuoteBy.{Answer}
use Rattle.quote_couple_kinds.specs.declared.CoupleKind.{CoupleKind}
use Rattle.quote_couple.specs.Couple.{couple_answer}
use Rattle.c_sheet_quote.specs.laws.AnswerLaws.{PutAnswer, put_refused}
use Rattle.c_couple_quote.specs.SheetsCouple.{readings_answer, sheets_answer}

-- ---- the answer

module _ (sheet sheet' : List ℕ) (kind : CoupleKind) (age other year span : ℤ) {first second : Reading}
    (f : first ≡ read_sheet sheet) (s : second ≡ read_sheet sheet') {r : Refusal}
    (e : r ≡ lower_refusal first.refusal second.refusal) {number : ℕ} (n : number ≡ refusal_number r) where
  pub both-refused : (number ≡ 0 → ⊥) → Err r ≡ readings_answer (read_sheet sheet) (read_sheet sheet') kind age other year span
  unfolding readings_answer
  both-refused h = rw (← f, ← s, ← e, ← n, ne_eqb number 0 h)

  pub both_read : number ≡ 0 → {a : Answer} → a ≡ couple_answer first.set second.set kind age other year span
      → a ≡ readings_answer (read_sheet sheet) (read_sheet sheet') kind age other year span
  unfolding readings_answer
  both_read h q = q ∙ rw (← f, ← s, ← e, ← n, h)

-- ---- the numbers

module _ (sheet sheet' : List ℕ) {k : Parse CoupleKind} (age other year span : ℤ) (before : List ℕ) {number : ℕ} where
  pub put-malformed : k ≡ malformed → number ≡ refusal_number Malformed
      → PutAnswer (sheets_answer sheet sheet' k age other year span) before number before
  unfolding sheets_answer
  put-malformed e n = put_refused before (rw (e, sheets_answer)) n

  pub put-taken : {kind : CoupleKind} {rest : List ℕ} → k ≡ taken kind rest
      → {a : Answer} → a ≡ readings_answer (read_sheet sheet) (read_sheet sheet') kind age other year span
      → {after : List ℕ} → PutAnswer a before number after
      → PutAnswer (sheets_answer sheet sheet' k age other year span) before number after
  unfolding sheets_answer
  put-taken e q put = rw (e, sheets_answer, ← q) put
