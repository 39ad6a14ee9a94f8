-- `year_days` meets its contract, by whether the year is a leap year.
use mathlib.Core.Path.{sym, ◌∙◌}
use Rattle.quote_calendar.specs.Calendar.{year_days}
use Rattle.quote_calendar.proofs.year_days.Goals as goal

pub returns-then-leap_year : goal.returns-then-leap_year
unfolding year_days
returns-then-leap_year c = rw (sym c.before.leap_year.ensures ∙ c.if-leap_year.true)

pub returns : goal.returns
unfolding year_days
returns c = rw (sym c.before.leap_year.ensures ∙ c.if-leap_year.false)
