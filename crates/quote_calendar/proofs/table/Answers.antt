-- `table` meets its contract: the checker computes the days before each month.
use Rattle.number_whole.specs.Listed.{listed}
use Rattle.quote_calendar.specs.Calendar.{month_lengths, month_days, days_before}
use Rattle.quote_calendar.proofs.table.Goals as goal

pub returns-then-leap : goal.returns-then-leap
unfolding listed month_lengths month_days days_before
returns-then-leap c = rw c.if-leap.true

pub returns : goal.returns
unfolding listed month_lengths month_days days_before
returns c = rw c.if-leap.false
