-- `kulfizan_target` meets its contract, which is that of the call below it.
use borrow.Author.Rules.{rules}
use mir.Facts.{to_z-of_z}
use Rattle.kulfizan.proofs.kulfizan_target.Goals as goal

pub returns : goal.returns
returns c = record {
  value = rw (to_z-of_z c.ranges.age, to_z-of_z c.ranges.target) at c.target_into.ensures.value;
  found_after = rw (to_z-of_z c.ranges.age, to_z-of_z c.ranges.target) at c.target_into.ensures.found_after;
  year_after = rw (to_z-of_z c.ranges.age, to_z-of_z c.ranges.target) at c.target_into.ensures.year_after;
}
