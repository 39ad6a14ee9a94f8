use Rattle.number_exponential.specs.Units.{grid_of}
use Rattle.number_folds.proofs.Running.{SurvivalTo}
use Rattle.number_folds.proofs.survival_over.Given as goal

abbrev pub invariant-loop-p : goal.invariant-loop-p
invariant-loop-p l = SurvivalTo (grid_of l.grid) l.factors l.p-index l.survival
