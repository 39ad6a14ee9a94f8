-- `longest_line` meets its contract: a number for each mode.
use borrow.Author.Rules.{rules}
use Rattle.run_line.specs.Line.{longest_line}
use Rattle.run_line.proofs.longest_line.Goals as goal

pub returns-in-Quotes : goal.returns-in-Quotes
unfolding longest_line
returns-in-Quotes c = search rules

pub returns-in-Compare : goal.returns-in-Compare
unfolding longest_line
returns-in-Compare c = search rules

pub returns-in-Couples : goal.returns-in-Couples
unfolding longest_line
returns-in-Couples c = search rules

pub returns-in-Targets : goal.returns-in-Targets
unfolding longest_line
returns-in-Targets c = search rules
