-- A query of two lives, "each with its own sheet, age and one common quote year" (paper 02, E8): the kind of its word and its
-- answer.
use Rattle.std.specs.Prelude.{cond, List, ℕ, eqb, ℤ, Err}
use Rattle.text_tokens.specs.Text.{Parse, malformed, taken}
use Rattle.set_refusal.specs.declared.Refusal.TheVariants.{Malformed}
use Rattle.set_refusal.specs.Refusals.{refusal_number, lower_refusal}
use Rattle.sheet.specs.declared.Reading.{Reading}
use Rattle.sheet.specs.Sheet.{read_sheet}
use Rattle.quote_along.specs.QuoteBy.{Answer}
use Rattle.quote_couple_kinds.specs.declared.CoupleKind.{CoupleKind}
use Rattle.quote_couple.specs.Couple.{couple_answer}
use Rattle.run_query.specs.Query.{whole_word}
use Rattle.run_couple_query.specs.CoupleQuery.{couple_word, couples_on_offer}

-- ---- the kind

-- the kind of a word, and malformed where the word is no couple's kind's or goes on
unfoldable pub couple_kind_of : List ℕ → Parse CoupleKind
couple_kind_of word = whole_word couple_word couples_on_offer word

-- ---- the answer

-- "Each number is tried on the first life, then the second, before the next number": the lower refusal of the two sheets; else the
-- answer of their sets
unfoldable pub readings_answer : Reading → Reading → CoupleKind → ℤ → ℤ → ℤ → ℤ → Answer
readings_answer first second kind age other year span =
    let r = lower_refusal first.refusal second.refusal in
    cond (eqb (refusal_number r) 0) (couple_answer first.set second.set kind age other year span) (Err r)

-- the answer to a query of two sheets' bytes, by the kind that was read: malformed, which has the lowest number, where none was
unfoldable pub sheets_answer : List ℕ → List ℕ → Parse CoupleKind → ℤ → ℤ → ℤ → ℤ → Answer
sheets_answer sheet sheet' malformed age other year span = Err Malformed
sheets_answer sheet sheet' (taken kind rest) age other year span =
    readings_answer (read_sheet sheet) (read_sheet sheet') kind age other year span
