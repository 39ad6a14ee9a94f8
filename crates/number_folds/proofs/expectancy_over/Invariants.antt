use Rattle.number_exponential.specs.Units.{grid_of}
use Rattle.number_folds.proofs.Running.{SurvivalTo, ExpectancyTo}
use Rattle.number_folds.proofs.expectancy_over.Given as goal

abbrev pub invariant-loop-factor : goal.invariant-loop-factor
invariant-loop-factor l =
    ExpectancyTo (grid_of l.grid) l.factors l.factor-index l.sums × SurvivalTo (grid_of l.grid) l.factors l.factor-index l.survival
