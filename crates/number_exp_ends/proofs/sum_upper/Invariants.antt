use Rattle.number_exponential.specs.Units.{grid_of}
use Rattle.number_exp_ends.proofs.Pairs.{UpperPairs}
use Rattle.number_exp_ends.proofs.sum_upper.Given as goal

abbrev pub invariant-loop-i : goal.invariant-loop-i
invariant-loop-i l = UpperPairs (grid_of l.grid) l.f l.low l.less l.evens l.odds l.i
