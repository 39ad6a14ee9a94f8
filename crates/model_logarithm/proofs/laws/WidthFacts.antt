-- How far apart the logarithm's ends may lie on a grid, and what the law on it asks of the grid.
use Rattle.std.specs.Prelude.{ℕ, suc, ◌*◌, ◌^◌, ◌≤◌, ◌<◌}
use Rattle.number_exponential.specs.Grid.{Grid}

-- units by which the logarithm's ends may lie apart besides twice the width of u
unfoldable pub log_width : Grid → ℕ
log_width g = 3 * g.log_terms

pub record Fine (g : Grid) : Type 0 where
  pub terms-positive : 0 < g.log_terms
  -- the power after the last term is small: (1/2)^(n+1) is at most n + 1 units
  pub rest-small : g.unit ≤ 2 ^ suc g.log_terms * suc g.log_terms
