-- Kappa on any grid lies within that of the grid of 10^-9.
use Rattle.std.specs.Prelude.{◌≡◌, refl, ℕ, zero, suc, ℤ, pos, ◌*ℤ◌}
use Rattle.std.proofs.Common.{lit<}
use Rattle.number_whole.proofs.laws.Split.{split, split-scale-left}
use Rattle.number_whole.proofs.laws.Order.{≤ℤ-of-≡}
use Rattle.number_whole.proofs.laws.Nested.{Nested, nested-least, nested-greatest, nested-outward, nested-shifted}
use Rattle.number_whole.specs.declared.SignedEnds.{SignedEnds}
use Rattle.number_whole.specs.SignedEnds.{least_product, greatest_product, shifted}
use Rattle.number_exponential.specs.Grid.{Grid}
use Rattle.number_exponential.specs.Units.{billionths}
use Rattle.set_params.specs.declared.Dynamics.{Dynamics}
use Rattle.set_series.specs.Series.{in_grid, kappa_step, kappa_in}

once : (z : ℤ) → pos 1 *ℤ z ≡ z
once z = omega (split, split-scale-left 1 z)

-- a set's number in its own unit
pub in_grid-coarse : (z : ℤ) → in_grid billionths z ≡ z
unfolding in_grid
in_grid-coarse z = once z

-- it lies within itself, and so do ends to which it is added
number-nested : (g : Grid) (z : ℤ)
    → Nested g.scale (record { lower = in_grid billionths z; upper = in_grid billionths z }) (record { lower = in_grid g z; upper = in_grid g z })
unfolding in_grid
number-nested g z = rw (once z) (record { low = ≤ℤ-of-≡ refl; high = ≤ℤ-of-≡ refl })

pub added-nested : (g : Grid) (c : ℤ) {e f : SignedEnds} → Nested g.scale e f
    → Nested g.scale (shifted (in_grid billionths c) e) (shifted (in_grid g c) f)
unfolding in_grid
added-nested g c h = rw (once c) (nested-shifted c h)

pub kappa_step-nested : (g : Grid) (d : Dynamics) {e f : SignedEnds} → Nested g.scale e f
    → Nested g.scale (kappa_step billionths d e) (kappa_step g d f)
unfolding kappa_step
kappa_step-nested g d {e} {f} h =
    let a = d.a in
    added-nested g d.c
    (nested-outward (least_product a e) (greatest_product a e) (least_product a f) (greatest_product a f) (lit< tt) (nested-least a h)
    (nested-greatest a h))

pub kappa-nested : (g : Grid) (d : Dynamics) (start : ℤ) (n : ℕ) → Nested g.scale (kappa_in billionths d start n) (kappa_in g d start n)
unfolding kappa_in
kappa-nested g d start zero = number-nested g start
kappa-nested g d start (suc n) = kappa_step-nested g d (kappa-nested g d start n)
