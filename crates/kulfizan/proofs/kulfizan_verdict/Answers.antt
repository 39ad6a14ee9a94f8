-- `kulfizan_verdict` meets its contract, which is that of the call below it.
use borrow.Author.Rules.{rules}
use mir.Facts.{to_z-of_z}
use Rattle.kulfizan.proofs.kulfizan_verdict.Goals as goal

pub returns : goal.returns
returns c = record {
  value = rw (to_z-of_z c.ranges.year) at c.verdict_into.ensures.value;
  verdict_after = rw (to_z-of_z c.ranges.year) at c.verdict_into.ensures.verdict_after;
}
