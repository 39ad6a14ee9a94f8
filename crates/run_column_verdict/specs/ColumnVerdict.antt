-- "Checking a column somebody else published" (paper 02, E3): what is answered of any bytes, and what that says of the exact
-- values: "Right is returned only for a column whose every entry is the rounded exact value, wrong only for one with an entry that
-- isn't." And what is answered by a sheet's bytes, as a call gives it: its number, and the verdict's number after it.
use Rattle.std.specs.Prelude.{◌≡◌, List, [], ℕ, ℤ, Ok, Err}
use Rattle.text_tokens.specs.Text.{taken}
use Rattle.set_params.specs.declared.Params.{Params}
use Rattle.set_refusal.specs.declared.Refusal.TheVariants.{Accepted}
use Rattle.set_refusal.specs.Refusals.{refusal_number}
use Rattle.sheet.specs.Sheet.{read_sheet, by_sheet}
use Rattle.run_column_text.specs.Column.{column_of}
use Rattle.quote_verdicts.specs.declared.Verdict.{Verdict}
use Rattle.quote_verdicts.specs.declared.Verdict.TheVariants.{Right, Wrong, Open}
use Rattle.quote_verdicts.specs.Verdict.{Judged}
use Rattle.quote_verdicts.specs.Verdict.{judged, EachRounded, SomeOther}

-- the answer
unfoldable pub column_verdict : Params → ℤ → List ℕ → Judged
column_verdict p year bytes = judged p year (column_of bytes)

-- the bytes are a column of which this holds
pub record ColumnWith (bytes : List ℕ) (P : List ℕ → Type 0) : Type 0 where
  pub column : List ℕ
  pub is : column_of bytes ≡ taken column []
  pub holds : P column

-- what an answer of the bytes says
pub record HonestOn (p : Params) (year : ℤ) (bytes : List ℕ) (r : Judged) : Type 0 where
  pub right : r ≡ Ok Right → ColumnWith bytes (EachRounded p year)
  pub wrong : r ≡ Ok Wrong → ColumnWith bytes (SomeOther p year)

-- ---- by a sheet's bytes

unfoldable pub sheet_verdict : List ℕ → ℤ → List ℕ → Judged
sheet_verdict sheet year column = by_sheet Err (λ p. column_verdict p year column) (read_sheet sheet)

-- each verdict's number
unfoldable pub verdict_number : Verdict → ℕ
verdict_number Right = 0
verdict_number Wrong = 1
verdict_number Open = 2

-- what a call gives: 0, or the refusal's number
unfoldable pub verdict_no : Judged → ℕ
verdict_no (Ok v) = refusal_number Accepted
verdict_no (Err r) = refusal_number r

-- the number after it: the verdict's, or what stood there
unfoldable pub verdict_after : Judged → ℕ → ℕ
verdict_after (Ok v) before = verdict_number v
verdict_after (Err r) before = before
