-- A cell that is answered: a set in its limits, an age and a year of the table, and every needed cell in range on the grid of 10^-9.
use Rattle.std.specs.Prelude.{ℕ, ◌≤◌, T}
use Rattle.number_exponential.specs.Units.{billionths}
use Rattle.set_params.specs.declared.Params.{Params}
use Rattle.set_limits.specs.InLimits.{in_limits}
use Rattle.set_params.specs.Limits.{last_years}
use Rattle.model_closure.specs.Weights.{last_closed}
use Rattle.model_mortality.specs.Cell.{needed_in_range}

pub record Answered (p : Params) (x n : ℕ) : Type 0 where
  pub limits : T (in_limits p)
  pub age : x ≤ last_closed
  pub year : n ≤ last_years
  pub needed : T (needed_in_range billionths p x n)
