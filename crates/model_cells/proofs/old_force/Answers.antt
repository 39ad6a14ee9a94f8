-- `old_force` meets its contract: the ends of G, which the closure takes from those of H, are within their limit.
use Rattle.std.proofs.Common.{IfSome, subst}
use Rattle.model_closure.specs.code.Code.{InLimit}
use Rattle.model_cells.proofs.Closed.{closed-within}
use Rattle.model_cells.proofs.old_force.Goals as goal

pub logistic-requires : goal.logistic-requires
logistic-requires c =
    rw c.closed_sum.ensures (closed-within c.args.row c.in_ok-ends.ends c.requires.0 (subst (λ o. IfSome o InLimit) c.in_ok-ends.was c.requires.1))
