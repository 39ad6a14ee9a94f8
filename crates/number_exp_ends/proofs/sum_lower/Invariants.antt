use Rattle.number_exponential.specs.Units.{grid_of}
use Rattle.number_exp_ends.proofs.Pairs.{LowerPairs}
use Rattle.number_exp_ends.proofs.sum_lower.Given as goal

abbrev pub invariant-loop-i : goal.invariant-loop-i
invariant-loop-i l = LowerPairs (grid_of l.grid) l.f l.low l.less l.evens l.odds l.i
