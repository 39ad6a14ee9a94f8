-- `case_of` is safe: a day's year is at most 9999, the days of a year at most 366, and those before a day fewer.
use mathlib.Core.Bool.{not}
use mathlib.Core.Path.{ap, sym, ◌∙◌}
use Prim.Native.Nat.{◌≤◌}
use native.Mathlib.Omega.{arith}
use borrow.Author.Tests.{not-false}
use lib.Dec.{T}
use lib.IntN.{nat_abs}
use mir.Syntax.{w64}
use mir.Val.{to_z, of_z}
use Rattle.quote_calendar.specs.Calendar.{date_year, is_day}
use Rattle.quote_calendar.specs.laws.Days.{day-plain, day-year, day-below, year-days}
use Rattle.day_cases.proofs.case_of.Goals as goal

is-a-day : (c : goal.Else-not-is_day) → T (is_day (to_z w64 (of_z w64 c.before.before.args.date)))
is-a-day c = rw (sym c.before.is_day.ensures ∙ not-false _ (ap not c.if-not-is_day.false)) tt

year-most : (c : goal.After-date_year-year) → c.date_year-year.result ≤ 9999
year-most c = omega (arith, c.date_year-year.ensures, (day-year _ (is-a-day c.before)).1)

days-most : (c : goal.After-year_days) → c.year_days.result ≤ 366
days-most c = omega (arith, c.year_days.ensures, (year-days c.before.date_year-year.result).1)

pub overflow_mul-result : goal.overflow_mul-result
overflow_mul-result c = omega (arith, year-most c)

pub overflow_mul-result-2 : goal.overflow_mul-result-2
overflow_mul-result-2 c = omega (arith, days-most c)

pub overflow_add-result : goal.overflow_add-result
overflow_add-result c = omega (arith, year-most c.before, days-most c)

pub overflow_add-result-2 : goal.overflow_add-result-2
overflow_add-result-2 c =
    let y = c.before in
    let t = is-a-day y.before.before in
    omega (
      arith,
      year-most y.before,
      days-most y,
      c.day_of_year.ensures,
      day-below _ (day-plain _ t),
      (year-days (date_year (nat_abs (to_z w64 (of_z w64 y.before.before.before.before.args.date))))).1,
    )

pub date_year-year-requires : goal.date_year-year-requires
date_year-year-requires c = is-a-day c

pub day_of_year-requires : goal.day_of_year-requires
day_of_year-requires c = is-a-day c.before.before
