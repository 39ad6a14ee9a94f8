-- `month_days` meets its contract: what the days before the next month exceed those before the month by.
use native.Mathlib.Omega.{arith}
use Rattle.quote_calendar.specs.laws.Days.{before-next}
use Rattle.quote_calendar.proofs.month_days.Goals as goal

pub overflow_sub-result : goal.overflow_sub-result
overflow_sub-result c = let s = c.before.before in omega (arith, before-next s.args.leap s.args.month)

pub returns : goal.returns
returns c = let s = c.before.before in omega (arith, before-next s.args.leap s.args.month)
