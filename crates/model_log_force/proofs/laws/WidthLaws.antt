-- How wide the log force is, for a set in its limits: in no year of a quote wider than 19 units.
use Rattle.std.specs.Prelude.{ℕ, ◌+◌, ◌*◌, ◌≤◌, ◌<◌, T, ℤ, pos, ◌+ℤ◌, ◌*ℤ◌, ◌≤ℤ◌}
use Rattle.std.proofs.Common.{arith, lit<}
use Rattle.number_whole.specs.code.Sizes.{Under}
use Rattle.number_whole.specs.declared.SignedEnds.{SignedEnds}
use Rattle.number_exponential.specs.Grid.{Grid}
use Rattle.set_params.specs.declared.Params.{Params}
use Rattle.set_params.specs.declared.Age.{Age}
use Rattle.set_params.specs.Set.{ages, age_of}
use Rattle.set_params.specs.Limits.{slope_limit, last_years}
use Rattle.set_series.specs.Series.{coefficient_unit, in_grid, period_index, kappa}
use Rattle.set_series.proofs.laws.WidthLaws.{kappa-wide}
use Rattle.set_limits.specs.InLimits.{in_limits}
use Rattle.set_limits.specs.laws.LimitsLaws.{in-limits-series, in-limits-age}
use Rattle.number_whole.proofs.laws.EndLaws.{Wide, product-width, outward-width, sum-wide}
use Rattle.model_log_force.specs.LogForce.{cell_force, log_force}
use Rattle.model_log_force.specs.code.Within.{log_force_width}

-- the log force of a cell is at most w wide where kappa is at most n wide and n/10 + 1 ≤ w
pub cell_force-wide : (g : Grid) (a : Age) (period : ℤ) {e : SignedEnds} {n : ℕ} (w : ℕ) → Under a.beta slope_limit
    → Wide e.lower e.upper n → slope_limit * n + coefficient_unit ≤ w * coefficient_unit + 1
    → Wide (cell_force g a period e).lower (cell_force g a period e).upper w
unfolding cell_force
cell_force-wide g a period w u h l =
    sum-wide (in_grid g (a.level +ℤ a.alpha))
    (outward-width w (lit< tt) (sum-wide (in_grid g (a.slope *ℤ period)) (product-width u h)) l)

pub log_force-wide : (g : Grid) (p : Params) → T (in_limits p) → {x n : ℕ} → x < ages → n ≤ last_years
    → Wide (log_force g p x n).lower (log_force g p x n).upper log_force_width
unfolding log_force
log_force-wide g p t {x} {n} hx hn = cell_force-wide g (age_of p x) (period_index p n) log_force_width (in-limits-age p t x hx).beta
    (kappa-wide g p.kappa n (in-limits-series p t).dynamics) (omega arith)

-- the lower end is at most the upper one, and that at most n above it for kappa, 19 above it for the log force
pub kappa-width : (g : Grid) (p : Params) → T (in_limits p) → (n : ℕ) → (kappa g p n).upper ≤ℤ ((kappa g p n).lower +ℤ pos n)
kappa-width g p t n = (kappa-wide g p.kappa n (in-limits-series p t).dynamics).width

pub log_force-ordered : (g : Grid) (p : Params) → T (in_limits p) → {x n : ℕ} → x < ages → n ≤ last_years
    → (log_force g p x n).lower ≤ℤ (log_force g p x n).upper
log_force-ordered g p t hx hn = (log_force-wide g p t hx hn).ordered

pub log_force-width : (g : Grid) (p : Params) → T (in_limits p) → {x n : ℕ} → x < ages → n ≤ last_years
    → (log_force g p x n).upper ≤ℤ ((log_force g p x n).lower +ℤ pos log_force_width)
log_force-width g p t hx hn = (log_force-wide g p t hx hn).width
