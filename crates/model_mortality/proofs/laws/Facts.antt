-- What the laws of a cell ask of a grid besides `Sound` and `Narrow`.
use Rattle.std.specs.Prelude.{◌*◌, ◌≤◌}
use Rattle.number_whole.specs.Parts.{below}
use Rattle.number_taylor.specs.Order.{least_order}
use Rattle.number_exponential.specs.Grid.{Grid}
use Rattle.model_logarithm.proofs.laws.WidthFacts.{Fine}
use Rattle.model_log_force.specs.LogForce.{highest_force}
use Rattle.model_logarithm.proofs.laws.Range.{Halving}

pub record Fit (g : Grid) : Type 0 where
  -- the logarithm's terms are enough, and no more than an order has
  pub log : Fine g
  pub terms : g.log_terms ≤ least_order
  -- from the greatest log force of a cell in range down the force is at most one half
  pub half : Halving g (g.scale * below highest_force)
