-- `sheets_by` meets its contract: the sheets of each mode.
use borrow.Author.Rules.{rules}
use Rattle.run.specs.Run.{sheets_by}
use Rattle.run.proofs.sheets_by.Goals as goal

pub returns-in-Quotes : goal.returns-in-Quotes
unfolding sheets_by
returns-in-Quotes c = search rules

pub returns-in-Compare : goal.returns-in-Compare
unfolding sheets_by
returns-in-Compare c = search rules

pub returns-in-Couples : goal.returns-in-Couples
unfolding sheets_by
returns-in-Couples c = search rules

pub returns-in-Targets : goal.returns-in-Targets
unfolding sheets_by
returns-in-Targets c = search rules
