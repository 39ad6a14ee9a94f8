-- `refused` meets its contract: the blank set with the refusal.
use Rattle.sheet.specs.Sheet.{refused}
use Rattle.sheet_reader.proofs.refused.Goals as goal

pub returns : goal.returns
unfolding refused
returns c = rw c.blank.ensures
