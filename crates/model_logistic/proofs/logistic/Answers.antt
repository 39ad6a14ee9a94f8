-- `logistic` meets its contract by those of the two ends.
use borrow.Author.Rules.{rules}
use Rattle.number_whole.proofs.laws.Bound.{back}
use Rattle.model_logistic.specs.Logistic.{logistic}
use Rattle.model_logistic.proofs.logistic.Goals as goal

pub returns : goal.returns
unfolding logistic
returns c =
    let l = c.before.before in
    let p = l.before.before.requires in
    rw (l.logistic_end.ensures, c.logistic_end-2.ensures, back p.low tt, back p.high tt)
