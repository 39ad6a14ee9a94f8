-- The log force on a grid holds the exact one in the grid's units, for every set and year.
use Rattle.std.specs.Prelude.{◌≡◌, ℕ, ℤ, pos, ◌+ℤ◌, ◌*ℤ◌}
use Rattle.std.proofs.Common.{lit<}
use Rattle.number_whole.specs.declared.SignedEnds.{SignedEnds}
use Rattle.number_whole.specs.SignedEnds.{least_product, greatest_product}
use Rattle.number_fraction.specs.Fraction.{Fraction, wholeℚ, ◌+ℚ◌, scaleℚ}
use Rattle.number_fraction.proofs.laws.EndsHold.{Holds, least-product, greatest-product, outward-holds, sum_low, sum-high}
use Rattle.number_fraction.proofs.laws.EndsHold.{shifted-holds}
use Rattle.number_fraction.proofs.laws.Scaling.{scaleℚ-+ℚ, scaleℚ-swap, scaleℚ-whole}
use Rattle.number_exponential.specs.Grid.{Grid}
use Rattle.set_params.specs.declared.Params.{Params}
use Rattle.set_params.specs.declared.Age.{Age}
use Rattle.set_params.specs.Set.{age_of}
use Rattle.set_series.specs.Series.{in_grid, period_index}
use Rattle.set_series.specs.Exact.{per_unit, exact_kappa}
use Rattle.set_series.proofs.laws.SeriesLaws.{in_grid_ℚ, sum-in-grid, kappa-holds}
use Rattle.model_log_force.specs.LogForce.{cell_force, log_force}
use Rattle.model_log_force.specs.Exact.{exact_log_force}

-- B-as-K + beta·y, both in a grid's units
trend-in-grid : (g : Grid) (b c : ℤ) (y : Fraction) → wholeℚ (in_grid g b) +ℚ scaleℚ c (in_grid_ℚ g y) ≡ in_grid_ℚ g (wholeℚ b +ℚ scaleℚ c y)
unfolding in_grid
trend-in-grid g b c y =
    let s = pos g.scale in
    rw (scaleℚ-whole s b, scaleℚ-swap s c y) (scaleℚ-+ℚ s (wholeℚ b) (scaleℚ c y))

-- the log force of a cell holds A + alpha + (B-as-K + beta·y)/10^8 where the ends of kappa hold y
pub cell_force-holds : (g : Grid) (a : Age) (period : ℤ) {e : SignedEnds} (y : Fraction) → Holds e (in_grid_ℚ g y)
    → Holds (cell_force g a period e)
    (in_grid_ℚ g (wholeℚ (a.level +ℤ a.alpha) +ℚ per_unit (wholeℚ (a.slope *ℤ period) +ℚ scaleℚ a.beta y)))
unfolding cell_force per_unit
cell_force-holds g a period {e} y h =
    let b = a.slope *ℤ period in
    let t = in_grid g b in
    let l = least_product a.beta e in
    let u = greatest_product a.beta e in
    rw (← sum-in-grid g (a.level +ℤ a.alpha) (wholeℚ b +ℚ scaleℚ a.beta y), ← trend-in-grid g b a.beta y)
    (shifted-holds (in_grid g (a.level +ℤ a.alpha))
    (outward-holds (t +ℤ l) (t +ℤ u) (lit< tt) (sum_low t l (least-product a.beta h))
    (sum-high t u (greatest-product a.beta h))))

-- the log force holds the exact one
pub log_force-holds : (g : Grid) (p : Params) (x n : ℕ) → Holds (log_force g p x n) (in_grid_ℚ g (exact_log_force p x n))
unfolding log_force exact_log_force
log_force-holds g p x n = cell_force-holds g (age_of p x) (period_index p n) (exact_kappa p n) (kappa-holds g p n)
