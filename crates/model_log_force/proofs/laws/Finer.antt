-- The log force on any grid lies within that of the grid of 10^-9, so that a cell in range there is in range on every grid.
use Rattle.std.specs.Prelude.{ℕ, T, ℤ, pos, ◌+ℤ◌, ◌*ℤ◌, ◌≤ℤ◌}
use Rattle.std.proofs.Common.{mul-le-mul_left, lit<}
use Rattle.std.specs.Float.Ieee.Bits.{is_true}
use Rattle.std.specs.Int.Signed.{le_z}
use Rattle.number_whole.proofs.laws.Split.{split, split-le, split-scale-left}
use Rattle.number_whole.proofs.laws.Order.{≤ℤ-trans}
use Rattle.number_whole.proofs.laws.Nested.{Nested, nested-least, nested-greatest, nested-outward}
use Rattle.number_whole.specs.declared.SignedEnds.{SignedEnds}
use Rattle.number_whole.specs.SignedEnds.{least_product, greatest_product}
use Rattle.number_exponential.specs.Grid.{Grid}
use Rattle.number_exponential.specs.Units.{billionths}
use Rattle.set_params.specs.declared.Params.{Params}
use Rattle.set_params.specs.declared.Age.{Age}
use Rattle.set_params.specs.Set.{age_of, dynamics_of}
use Rattle.set_series.specs.Series.{in_grid, period_index}
use Rattle.set_series.proofs.laws.Finer.{in_grid-coarse, added-nested, kappa-nested}
use Rattle.model_log_force.specs.LogForce.{cell_force, log_force, lowest_force, highest_force, in_range}
use Rattle.model_log_force.proofs.laws.RangeLaws.{in-range}

cell_force-nested : (g : Grid) (a : Age) (k : ℤ) {e f : SignedEnds} → Nested g.scale e f
    → Nested g.scale (cell_force billionths a k e) (cell_force g a k f)
unfolding cell_force
cell_force-nested g a k {e} {f} h =
    let b = a.beta in
    let n = added-nested g (a.slope *ℤ k) {e = record { lower = least_product b e; upper = greatest_product b e }}
    {f = record { lower = least_product b f; upper = greatest_product b f }}
    (record { low = nested-least b h; high = nested-greatest b h }) in
    added-nested g (a.level +ℤ a.alpha) (nested-outward _ _ _ _ (lit< tt) n.low n.high)

pub log_force-nested : (g : Grid) (p : Params) (x n : ℕ) → Nested g.scale (log_force billionths p x n) (log_force g p x n)
unfolding log_force
log_force-nested g p x n = cell_force-nested g (age_of p x) (period_index p n) (kappa-nested g (dynamics_of p) p.kappa n)

scaled-mono : (s : ℕ) {a b : ℤ} → a ≤ℤ b → (pos s *ℤ a) ≤ℤ (pos s *ℤ b)
scaled-mono s {a} {b} h = omega (split, split-scale-left s a, split-scale-left s b, mul-le-mul_left s (split-le h))

both : (g : Grid) (m : SignedEnds) → in_grid g lowest_force ≤ℤ m.lower → m.upper ≤ℤ in_grid g highest_force → T (in_range g m)
unfolding in_range
both g m h k = rw (is_true (le_z (in_grid g lowest_force) m.lower) h.le, is_true (le_z m.upper (in_grid g highest_force)) k.le) tt

-- a bound that coarse ends keep is kept by ends within them
bound-low : (g : Grid) {z : ℤ} {e f : SignedEnds} → Nested g.scale e f → z ≤ℤ e.lower → in_grid g z ≤ℤ f.lower
unfolding in_grid
bound-low g n h = ≤ℤ-trans (scaled-mono g.scale h) n.low

bound-high : (g : Grid) {z : ℤ} {e f : SignedEnds} → Nested g.scale e f → e.upper ≤ℤ z → f.upper ≤ℤ in_grid g z
unfolding in_grid
bound-high g n h = ≤ℤ-trans n.high (scaled-mono g.scale h)

pub in-range-finer : (g : Grid) {e f : SignedEnds} → Nested g.scale e f → T (in_range billionths e) → T (in_range g f)
in-range-finer g {e} {f} n t =
    let r = in-range billionths e t in
    both g f (bound-low g n (rw (in_grid-coarse lowest_force) at r.low)) (bound-high g n (rw (in_grid-coarse highest_force) at r.high))
