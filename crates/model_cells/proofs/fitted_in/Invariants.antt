-- Of any set that lends the runs, the first i cells are in range and the first i ends are those of H.
use Rattle.number_exponential.specs.Units.{grid_of}
use Rattle.model_cells.specs.code.Fitted.{LentIn}
use Rattle.model_cells.proofs.Fitting.{FittedTo}
use Rattle.model_cells.proofs.fitted_in.Given as goal

abbrev pub invariant-loop-i : goal.invariant-loop-i
invariant-loop-i l =
    (o : LentIn (grid_of l.grid) l.level l.slope l.alpha l.beta l.y) → FittedTo (grid_of l.grid) o.set l.y.number l.ends l.i
