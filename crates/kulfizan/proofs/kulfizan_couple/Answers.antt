-- `kulfizan_couple` meets its contract, which is that of the call below it.
use borrow.Author.Rules.{rules}
use mir.Facts.{to_z-of_z}
use Rattle.kulfizan.proofs.kulfizan_couple.Goals as goal

pub returns : goal.returns
returns c = record {
  value = rw (to_z-of_z c.ranges.age, to_z-of_z c.ranges.other, to_z-of_z c.ranges.year, to_z-of_z c.ranges.span) at c.couple_into.ensures.value;
  quote_after = rw (to_z-of_z c.ranges.age, to_z-of_z c.ranges.other, to_z-of_z c.ranges.year, to_z-of_z c.ranges.span) at c.couple_into.ensures.numbers_after;
}
