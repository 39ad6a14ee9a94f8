-- `stop` meets its contract: both sets are blank.
use borrow.Author.Rules.{rules}
use Rattle.run_sheets.specs.Front.{stopped}
use Rattle.run_sheets.proofs.stop.Goals as goal

pub returns : goal.returns
unfolding stopped
returns c = rw c.blank-none.ensures
