-- The tests of an age, a year, a term and a rate against the table, and the refusal of the first that fails (paper 01, "Figures
-- on offer"; paper 02, E1, E6 and E7).
use Rattle.std.specs.Prelude.{Bool, true, cond, ◌&&◌, List, [], ◌∷◌, ℤ, pos, nat_abs, ◌+ℤ◌}
use Rattle.std.specs.Int.Signed.{le_z}
use Rattle.set_refusal.specs.declared.Refusal.{Refusal}
use Rattle.set_refusal.specs.declared.Refusal.TheVariants.{Accepted, NoSuchAge, NoSuchYear, NoSuchSpan, NoSuchRate, NoSuchDate}
use Rattle.set_params.specs.Limits.{first_years}
use Rattle.model_closure.specs.Weights.{last_closed}
use Rattle.number_annuity.specs.Annuity.{most_rate}
use Rattle.quote_calendar.specs.Calendar.{is_day}
use Rattle.quote_kinds.specs.declared.Rule.{Rule}
use Rattle.quote_kinds.specs.Kinds.{rate_of, longest_span, span_of}

-- z is at least low and at most high
abbrev pub between : ℤ → ℤ → ℤ → Bool
between low high z = le_z low z && le_z z high

-- ---- the table of refusals, 3 to 5, 8 and 10

-- "no such age": "age outside 0 to 120"
unfoldable pub age_in_table : ℤ → Bool
age_in_table age = between (pos 0) (pos last_closed) age

-- "no such year": "year outside the kind's range", which moves "with the start"
unfoldable pub year_in_table : ℤ → Rule → ℤ → Bool
year_in_table start rule year = between (start +ℤ pos first_years) (start +ℤ rule.years) year

-- "no such date": "any number that isn't a day in that form by the Gregorian rule", where the term is a date
unfoldable pub date_in_table : Rule → ℤ → Bool
date_in_table rule term = cond rule.dated (is_day term) true

-- "no such span": "span outside 0 to 121 − age; for `q` and expectancies, not 0"; "a real date outside the term gives 5"
unfoldable pub span_in_table : Rule → ℤ → ℤ → ℤ → Bool
span_in_table rule age year term = between (pos 0) (pos (longest_span rule (nat_abs age))) (span_of rule year term)

-- "no such rate", of an annuity: "from 0 to 200,000"
unfoldable pub rate_in_table : Rule → Bool
rate_in_table rule = between (pos 0) (pos most_rate) (rate_of rule.fold)

-- a test, and the refusal where it fails
pub record Test : Type 0 where
  pub passed : Bool
  pub refusal : Refusal

-- "The lowest number that applies is given, and none when none applies": the first test that fails, in the numbers' order but
-- for 8, which is given "after 5 and before 6", and 10, "after 4"
unfoldable pub first_failed : List Test → Refusal
first_failed [] = Accepted
first_failed (t ∷ ts) = cond t.passed (first_failed ts) t.refusal

-- those of the table of a start year, 3 to 5, 8 and 10
unfoldable pub table_tests : ℤ → Rule → ℤ → ℤ → ℤ → List Test
table_tests start rule age year term =
    record { passed = age_in_table age; refusal = NoSuchAge } ∷
    record { passed = year_in_table start rule year; refusal = NoSuchYear } ∷
    record { passed = date_in_table rule term; refusal = NoSuchDate } ∷
    record { passed = span_in_table rule age year term; refusal = NoSuchSpan } ∷
    record { passed = rate_in_table rule; refusal = NoSuchRate } ∷ []
