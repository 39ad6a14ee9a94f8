-- What the law asks of a grid that the force is at most 1/2 from a z on.
use Rattle.std.specs.Prelude.{ℕ, ◌+◌, ◌*◌, ◌≤◌}
use Rattle.number_taylor.specs.Taylor.{taylor_den, taylor_num}
use Rattle.number_taylor.specs.Order.{least_order}
use Rattle.number_exponential.specs.Grid.{Grid}
use Rattle.number_exponential.proofs.laws.WidthFacts.{slack_upper}

-- at z₀ units the sum s of z^i/i! at some order is at least 2, by a margin that covers the exponential's slack
pub record Halving (g : Grid) (z₀ : ℕ) : Type 0 where
  pub order : ℕ
  pub some-order : 1 ≤ order
  pub counted : order ≤ least_order
  pub slack-small : 2 * slack_upper g ≤ 3 * g.unit
  pub tested : 6 * (g.unit * taylor_den g.unit order) + 2 * slack_upper g * taylor_num z₀ g.unit order
      ≤ 3 * g.unit * taylor_num z₀ g.unit order
