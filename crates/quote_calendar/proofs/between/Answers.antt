-- `between` meets its contract: a range contains what is between its ends.
use Rattle.std.proofs.Common.{rules}
use Rattle.quote_calendar.specs.Calendar.{between}
use Rattle.quote_calendar.proofs.between.Goals as goal

pub returns : goal.returns
unfolding between
returns c = rw (c.contains.ensures.value, c.new.ensures.exhausted, c.new.ensures.start, c.new.ensures.end) (search rules)
