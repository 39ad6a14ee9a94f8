-- How far apart the exponential's ends may lie on a grid, and what the law on it asks of the grid besides `Sound`.
use Rattle.std.specs.Prelude.{ℕ, suc, ◌+◌, ◌*◌, ◌/◌, ◌≤◌, ◌<◌}
use Rattle.number_taylor.specs.Taylor.{taylor_den, taylor_num}
use Rattle.number_taylor.proofs.laws.Factorial.{factorial}
use Rattle.number_taylor.specs.Alternating.{double}
use Rattle.number_exponential.specs.Grid.{Grid}
use Rattle.number_exponential.specs.Exponential.{total}
use Rattle.number_exponential.proofs.laws.Facts.{Sound}
use Rattle.number_exponential.proofs.laws.Terms.{slack}

-- thirds of a unit by which an end may be off: the terms' slack, and one third for the terms left out
unfoldable pub slack_upper : Grid → ℕ
slack_upper g = suc (total slack (suc g.last_upper))

unfoldable pub slack_lower : Grid → ℕ
slack_lower g = suc (total slack (suc g.last_lower))

-- units that an upper end at z may lie above a lower end at z, and at z' above z besides z' − z
unfoldable pub exp_width : Grid → ℕ
exp_width g = (slack_upper g + slack_lower g) / 3

pub record Narrow (g : Grid) (s : Sound g) : Type 0 where
  -- the terms left out are less than a third of a unit, in all
  pub upper-rest : 3 * g.unit ≤ factorial (suc (double s.upper_pairs))
  pub lower-rest : 3 * g.unit ≤ factorial (double (suc s.lower_pairs))
  pub lower-order : double (suc s.lower_pairs) ≤ s.order
  -- the slack covers what a product with a constant adds
  pub upper-slack : 9 * suc g.steps ≤ slack_upper g
  pub lower-slack : 9 * suc g.steps ≤ slack_lower g
  -- the slack is small against the unit
  pub fine : slack_lower g * taylor_num 1 1 s.order < 3 * g.unit * taylor_den 1 s.order
