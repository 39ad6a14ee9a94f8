-- The first cells are in range and their factors stand in the array, and the year is that of the next cell.
use Rattle.number_exponential.specs.Units.{grid_of}
use Rattle.quote_walks.specs.code.Code.{Worked, YearAt}
use Rattle.quote_walks.proofs.young_factors.Given as goal

abbrev pub invariant-loop-done : goal.invariant-loop-done
invariant-loop-done l = Worked (grid_of l.grid) l.p l.fn.path l.ends l.done × YearAt (grid_of l.grid) l.p l.fn.path l.done l.year
