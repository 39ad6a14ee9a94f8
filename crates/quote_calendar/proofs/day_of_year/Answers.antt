-- `day_of_year` meets its contract: the day's month and day of the month are those of the calendar, so that nothing overflows.
use mathlib.Core.Path.{◌≡◌, ap, ◌∙◌}
use Prim.Native.Nat.{◌+◌, ◌-◌, ◌%◌}
use native.Mathlib.Omega.{arith}
use lib.Dec.{T}
use lib.IntN.{pos, nat_abs}
use mir.Facts.{to_z-of_z}
use Rattle.quote_calendar.specs.Calendar.{date_year, date_month, date_day, is_day, day_of_year}
use Rattle.quote_calendar.specs.laws.Days.{day-plain, day-parts, day-below, year-days}
use Rattle.quote_calendar.proofs.day_of_year.Goals as goal
use Rattle.quote_calendar.proofs.day_of_year.Goals.{After-unsigned_abs-z}

plain-is : (c : After-unsigned_abs-z) → c.unsigned_abs-z.result ≡ nat_abs c.args.date
plain-is c = c.unsigned_abs-z.ensures.value ∙ ap nat_abs (to_z-of_z c.ranges.date)

plain-day : (c : After-unsigned_abs-z) → T (is_day (pos c.unsigned_abs-z.result))
plain-day c = rw (plain-is c) (day-plain c.args.date c.requires)

-- the month and the day of the month are in the calendar
pub days_before-before-requires : goal.days_before-before-requires
unfolding date_month
days_before-before-requires c = omega (arith, (day-parts _ (plain-day c.before)).month-most)

pub overflow_sub-result : goal.overflow_sub-result
unfolding date_day
overflow_sub-result c = omega (arith, (day-parts _ (plain-day c.before.before)).day-least)

-- the sum is d
counted : (c : goal.After-days_before-before) → let z = c.unsigned_abs-z.result in c.days_before-before.result + (z % 100 - 1) ≡ day_of_year z
unfolding day_of_year date_year date_month date_day
counted c = rw (c.days_before-before.ensures, c.leap_year.ensures)

pub overflow_add-result : goal.overflow_add-result
overflow_add-result c =
    let z = c.unsigned_abs-z.result in
    omega (arith, counted c, day-below z (plain-day c.before.before), year-days (date_year z))

pub returns : goal.returns
returns c = counted c ∙ ap day_of_year (plain-is c.before.before)
