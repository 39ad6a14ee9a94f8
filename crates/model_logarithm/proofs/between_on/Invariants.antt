use Rattle.number_exponential.specs.Units.{grid_of}
use Rattle.model_logarithm.proofs.Steps.{LowerSteps, UpperSteps}
use Rattle.model_logarithm.proofs.between_on.Given as goal

abbrev pub invariant-loop-k : goal.invariant-loop-k
invariant-loop-k l =
    LowerSteps (grid_of l.grid) l.low l.down l.least l.k × UpperSteps (grid_of l.grid) l.high l.up l.most l.k
