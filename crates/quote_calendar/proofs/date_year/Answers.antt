-- `date_year` meets its contract: a day's sign is not negative.
use Rattle.std.proofs.Common.{ap, ◌∙◌}
use lib.IntN.{nat_abs}
use mir.Facts.{to_z-of_z}
use Rattle.quote_calendar.specs.Calendar.{date_year}
use Rattle.quote_calendar.proofs.date_year.Goals as goal

pub returns : goal.returns
unfolding date_year
returns c = ap date_year (c.unsigned_abs.ensures.value ∙ ap nat_abs (to_z-of_z c.ranges.date))
