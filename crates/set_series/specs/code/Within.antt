-- What the code of the series asks and says beside the definitions: a sum over 10^8, and kappa within its limit in the years before.
use Rattle.std.specs.Prelude.{Bool, cond, ℕ, ◌+◌, ◌*◌, ◌≤◌, ◌<◌, ℤ, nat_abs, ◌+ℤ◌, ◌*ℤ◌}
use Rattle.number_whole.specs.Division.{floor_div, ceil_div}
use Rattle.number_whole.specs.code.Sizes.{Under, Within}
use Rattle.number_exponential.specs.Grid.{Grid}
use Rattle.set_params.specs.declared.Dynamics.{Dynamics}
use Rattle.set_params.specs.Limits.{a_limit, level_limit, slope_limit, period_limit, kappa_limit}
use Rattle.set_series.specs.Series.{coefficient_unit, in_grid, kappa_in}

-- how far from 0 a set's number may lie that is taken to a grid's units
abbrev pub number_limit : ℕ
number_limit = 2 * level_limit

-- p in units of 10^-9, with c times z in a grid's units, over 10^8: rounded up for an upper end and down for a lower one
abbrev pub mixed : Grid → ℤ → ℤ → ℤ → ℤ
mixed g p c z = in_grid g p +ℤ c *ℤ z

unfoldable pub mixed_over : Grid → ℤ → ℤ → ℤ → Bool → ℤ
mixed_over g p c z upper = cond upper (ceil_div (mixed g p c z) coefficient_unit) (floor_div (mixed g p c z) coefficient_unit)

-- the sizes in which it is worked
abbrev pub mixed_limit : ℕ
mixed_limit = slope_limit * period_limit + slope_limit * kappa_limit

pub record MixedWithin (g : Grid) (p c z : ℤ) : Type 0 where
  pub factor : Under c a_limit
  pub total : nat_abs p + nat_abs c * kappa_limit ≤ mixed_limit
  pub end : Under z (g.scale * kappa_limit)

-- kappa in the first n years
pub record KappaWithin (g : Grid) (d : Dynamics) (start : ℤ) (n : ℕ) : Type 0 where
  pub years : (m : ℕ) → m < n → Within (g.scale * kappa_limit) (kappa_in g d start m)
