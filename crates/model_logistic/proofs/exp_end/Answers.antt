-- `exp_end` meets its contract by those of the two ends.
use borrow.Author.Rules.{rules}
use Rattle.model_logistic.proofs.exp_end.Goals as goal

pub returns-then-upper : goal.returns-then-upper
returns-then-upper c = rw c.before.if-upper.true c.exp_upper.ensures

pub returns : goal.returns
returns c = rw c.before.if-upper.false c.exp_lower.ensures
