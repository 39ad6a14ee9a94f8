use Rattle.std.proofs.Common.{length}
use Rattle.number_exponential.specs.Units.{grid_of}
use Rattle.quote_two_lives.proofs.Running.{StatusTo}
use Rattle.quote_two_lives.proofs.status_expectancy_over.Given as goal

abbrev pub invariant-loop-p : goal.invariant-loop-p
invariant-loop-p l =
    StatusTo (grid_of l.grid) l.status l.first l.second (length l.yielded) l.p-iterator.a.rest.now l.p-iterator.b.rest.now l.sums l.s l.t
