-- The kinds of figure (paper 01, "Figures on offer"; paper 02, E1, E2 and E6): of each the fold, the path, the years and whether
-- its term is a date; and of each fold the path's length, the longest span, the step and how far apart the ends may lie.
use Rattle.std.specs.Prelude.{Bool, true, false, cond, ◌≡◌, ℕ, suc, ◌+◌, ◌-◌, ltb, ℤ, pos, nat_abs, ◌-ℤ◌}
use Rattle.std.proofs.Common.{arith}
use Rattle.number_fraction.specs.Ratio.{Ratio, whole/}
use Rattle.set_params.specs.Limits.{quote_years, last_years}
use Rattle.model_closure.specs.Weights.{first_closed, last_closed}
use Rattle.number_exact.specs.Figure.{probability_step, expectancy_step, price_step}
use Rattle.quote_calendar.specs.Calendar.{date_year, day_of_year, year_days}
use Rattle.quote_kinds.specs.declared.Kind.{Kind}
use Rattle.quote_kinds.specs.declared.Kind.TheVariants as kind
use Rattle.quote_paths.specs.declared.Fold.{Fold}
use Rattle.quote_paths.specs.declared.Fold.TheVariants.{Death, Survival, Expectancy, Annuity}
use Rattle.quote_kinds.specs.declared.Rule.{Rule}

-- "`q`: one-year death probability, .. year 2014 to 2184." "`coh`, `per`: chance to survive a span .., along the cohort or in
-- one calendar year." "`ecoh`, `eper`: cohort and period life expectancy." "The last four take years 2014 to 2064." A path of
-- one cell is the same along the cohort and in one year. "1 paid now and on each 1 January while alive, .. cohort (`acoh`) or
-- period (`aper`). Years are those of an expectancy." "Kind `day` carries age, year (2014 to 2064) and, in place of a span,
-- `date=` as YYYYMMDD"; "On 1 January the answer is the cohort survival".
unfoldable pub rule_of : Kind → Rule
rule_of kind.Death = record { fold = Death; cohort = true; years = pos last_years; dated = false }
rule_of kind.CohortSurvival = record { fold = Survival; cohort = true; years = pos quote_years; dated = false }
rule_of kind.PeriodSurvival = record { fold = Survival; cohort = false; years = pos quote_years; dated = false }
rule_of kind.CohortExpectancy = record { fold = Expectancy; cohort = true; years = pos quote_years; dated = false }
rule_of kind.PeriodExpectancy = record { fold = Expectancy; cohort = false; years = pos quote_years; dated = false }
rule_of (kind.CohortAnnuity rate) = record { fold = Annuity rate; cohort = true; years = pos quote_years; dated = false }
rule_of (kind.PeriodAnnuity rate) = record { fold = Annuity rate; cohort = false; years = pos quote_years; dated = false }
rule_of kind.Day = record { fold = Survival; cohort = true; years = pos quote_years; dated = true }

-- "for these two kinds only"
unfoldable pub takes_rate : Kind → Bool
takes_rate kind.Death = false
takes_rate kind.CohortSurvival = false
takes_rate kind.PeriodSurvival = false
takes_rate kind.CohortExpectancy = false
takes_rate kind.PeriodExpectancy = false
takes_rate (kind.CohortAnnuity rate) = true
takes_rate (kind.PeriodAnnuity rate) = true
takes_rate kind.Day = false

-- the kind with another rate, where it takes one
unfoldable pub with_rate : Kind → ℤ → Kind
with_rate kind.Death rate = kind.Death
with_rate kind.CohortSurvival rate = kind.CohortSurvival
with_rate kind.PeriodSurvival rate = kind.PeriodSurvival
with_rate kind.CohortExpectancy rate = kind.CohortExpectancy
with_rate kind.PeriodExpectancy rate = kind.PeriodExpectancy
with_rate (kind.CohortAnnuity old) rate = kind.CohortAnnuity rate
with_rate (kind.PeriodAnnuity old) rate = kind.PeriodAnnuity rate
with_rate kind.Day rate = kind.Day

-- one kind, whatever the rate
unfoldable pub rate_aside : Kind → Kind
rate_aside k = with_rate k (pos 0)

abbrev pub OneKind : Kind → Kind → Type 0
OneKind k k' = rate_aside k ≡ rate_aside k'

-- the rate of an annuity; the others take none
unfoldable pub rate_of : Fold → ℤ
rate_of Death = pos 0
rate_of Survival = pos 0
rate_of Expectancy = pos 0
rate_of (Annuity rate) = rate

-- the years to age 121, which end every span
abbrev pub years_left : ℕ → ℕ
years_left x = suc last_closed - x

-- the years from year n on, "to the last factor in 2184"
abbrev pub years_on : ℕ → ℕ
years_on n = suc last_years - n

-- "span outside 0 to 121 − age; for `q` and expectancies, not 0"; an annuity "has span 0 (any other is 5)"
unfoldable pub most_span : Fold → ℕ → ℕ
most_span Death x = 0
most_span Survival x = years_left x
most_span Expectancy x = 0
most_span (Annuity rate) x = 0

-- a rule's longest span: to a day the whole years are those "to 31 December of the year in which age 120 is held"
unfoldable pub longest_span : Rule → ℕ → ℕ
longest_span r x = cond r.dated (last_closed - x) (most_span r.fold x)

-- years of the path from year n on: one for q, and the span of a survival; "Expectancies and annuities now run on so, to the
-- last factor in 2184; period ones have as many factors. An annuity pays now and once after each factor."
unfoldable pub count_of : Fold → ℕ → ℕ → ℕ
count_of Death n span = 1
count_of Survival n span = span
count_of Expectancy n span = years_on n
count_of (Annuity rate) n span = years_on n

-- the step of a probability, of an expectancy and of a price, in units of 10^-9; "A probability prints five decimals", an
-- expectancy two and a price one
unfoldable pub step_of : Fold → ℕ
step_of Death = probability_step
step_of Survival = probability_step
step_of Expectancy = expectancy_step
step_of (Annuity rate) = price_step

unfoldable pub decimals_of : Fold → ℕ
decimals_of Death = 5
decimals_of Survival = 5
decimals_of Expectancy = 2
decimals_of (Annuity rate) = 1

-- "q to age 90, 100; q above, 600"
unfoldable pub cell_width : ℕ → ℕ
cell_width x = cond (ltb x first_closed) 100 600

-- "Ends are at most this far apart, in units: .. survival, 30,000"; of expectancies and annuities "ends may now lie 10,000,000
-- units apart".
unfoldable pub fold_width : Fold → ℕ → ℕ
fold_width Death x = cell_width x
fold_width Survival x = 30000
fold_width Expectancy x = 10000000
fold_width (Annuity rate) x = 10000000

-- of a rule at age x over a span: to a day "Step and ends are those of survival, with 100 units more of width to age 90 and 600
-- above"
unfoldable pub width_of : Rule → ℕ → ℕ → ℕ
width_of r x span = fold_width r.fold x + cond r.dated (cell_width (x + span)) 0

-- ---- the term of a query: a span, or a date

-- the whole years to it: of a date, from the query's year to its own
unfoldable pub span_of : Rule → ℤ → ℤ → ℤ
span_of r year term = cond r.dated (pos (date_year (nat_abs term)) -ℤ year) term

-- "d/D, where d is days since 1 January and D is 365 or 366"
unfoldable pub date_part : ℕ → Ratio
unfolding year_days
date_part z = record { num = day_of_year z; den = year_days (date_year z); positive = omega arith }

-- the part of a year after them; a span has none
unfoldable pub part_of : Rule → ℤ → Ratio
part_of r term = cond r.dated (date_part (nat_abs term)) (whole/ 0)
