use Rattle.std.proofs.Common.{length}
use Rattle.model_closure.proofs.Sums.{Summed}
use Rattle.model_closure.proofs.closed_sum.Given as goal

abbrev pub invariant-loop-w : goal.invariant-loop-w
invariant-loop-w l = Summed l.fn.row l.fn.h (length l.yielded) l.w-iterator.a.rest.now l.w-iterator.b.rest.now l.sums
