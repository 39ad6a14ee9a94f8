use Rattle.std.proofs.Common.{List, ℕ, ◌+◌, ◌≤◌, Option}
use Rattle.number_whole.specs.declared.SignedEnds.{SignedEnds}
use Rattle.number_exponential.specs.Grid.{Grid}
use Rattle.number_exponential.specs.declared.Ends.{Ends}
use Rattle.number_exponential.specs.Units.{grid_of}
use Rattle.set_params.specs.declared.Params.{Params}
use Rattle.model_closure.specs.Weights.{first_closed}
use Rattle.model_log_force.specs.declared.Year.{Year}
use Rattle.model_cells.specs.code.Fitted.{FittedOf}
use Rattle.quote_paths.specs.declared.Path.{Path}
use Rattle.quote_walks.specs.code.Code.{Worked, YearAt}
use Rattle.quote_factors.proofs.old_factors.Given as goal

-- the first cells are in range and their factors stand in the array, and the year and its H are those of the next cell
pub record Going (g : Grid) (p : Params) (w : Path) (done : ℕ) (ends : List Ends) (year : Year) (fitted : Option (List SignedEnds)) : Type 0 where
  pub worked : Worked g p w ends done
  pub next : YearAt g p w done year
  pub above : first_closed ≤ w.age + done
  pub heights : FittedOf g p year.number fitted

abbrev pub invariant-loop-done : goal.invariant-loop-done
invariant-loop-done l = Going (grid_of l.grid) l.p l.fn.path l.done l.ends l.year l.fitted
