-- The year a target is reached by a sheet's bytes, as a call gives it: its number, and the two numbers after it.
use Rattle.std.specs.Prelude.{List, ℕ, ℤ, pos, Ok, Err}
use Rattle.set_refusal.specs.declared.Refusal.TheVariants.{Accepted}
use Rattle.set_refusal.specs.Refusals.{refusal_number}
use Rattle.sheet.specs.Sheet.{read_sheet, by_sheet}
use Rattle.quote_target.specs.declared.TargetYear.{TargetYear}
use Rattle.quote_target.specs.declared.TargetYear.TheVariants.{Reached, Open, Never}
use Rattle.quote_target.specs.Target.{TargetAnswer, target_answer}

-- the answer of a sheet's bytes, an age and a target
unfoldable pub sheet_target : List ℕ → ℤ → ℤ → TargetAnswer
sheet_target sheet age target = by_sheet Err (λ p. target_answer p age target) (read_sheet sheet)

-- what a call gives: 0, or the refusal's number
unfoldable pub target_no : TargetAnswer → ℕ
target_no (Ok told) = refusal_number Accepted
target_no (Err r) = refusal_number r

-- the number that tells what was found: a year, open, or none
unfoldable pub told_number : TargetYear → ℕ
told_number (Reached year) = 0
told_number Open = 1
told_number Never = 2

-- the year, 0 where none is named
unfoldable pub told_year : TargetYear → ℤ
told_year (Reached year) = year
told_year Open = pos 0
told_year Never = pos 0

-- the two numbers after a call: what was found; or what stood there
unfoldable pub found_after : TargetAnswer → ℕ → ℕ
found_after (Ok told) before = told_number told
found_after (Err r) before = before

unfoldable pub year_after : TargetAnswer → ℤ → ℤ
year_after (Ok told) before = told_year told
year_after (Err r) before = before
