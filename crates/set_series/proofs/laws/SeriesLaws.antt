-- Kappa on a grid holds the exact one in the grid's units, for every set and year.
use Rattle.std.specs.Prelude.{◌≡◌, ℕ, zero, suc, ℤ, pos, ◌*ℤ◌}
use Rattle.std.proofs.Common.{lit<}
use Rattle.number_whole.specs.declared.SignedEnds.{SignedEnds}
use Rattle.number_whole.specs.SignedEnds.{least_product, greatest_product}
use Rattle.number_fraction.specs.Fraction.{Fraction, wholeℚ, ◌+ℚ◌, scaleℚ}
use Rattle.number_fraction.proofs.laws.FractionLaws.{≤ℚ-refl}
use Rattle.number_fraction.proofs.laws.Scaling.{scaleℚ-+ℚ, scaleℚ-swap, scaleℚ-whole, scaleℚ-quotient}
use Rattle.number_fraction.proofs.laws.EndsHold.{Holds, least-product, greatest-product, outward-holds, shifted-holds}
use Rattle.number_exponential.specs.Grid.{Grid}
use Rattle.set_params.specs.declared.Params.{Params}
use Rattle.set_params.specs.declared.Dynamics.{Dynamics}
use Rattle.set_params.specs.Set.{dynamics_of}
use Rattle.set_series.specs.Series.{in_grid, kappa_step, kappa_in, kappa}
use Rattle.set_series.specs.Exact.{per_unit, exact_kappa}

-- a fraction of units of 10^-9 in a grid's units
abbrev pub in_grid_ℚ : Grid → Fraction → Fraction
in_grid_ℚ g y = scaleℚ (pos g.scale) y

-- a whole number over 10^8 and another: both sides in a grid's units
pub sum-in-grid : (g : Grid) (c : ℤ) (x : Fraction) → wholeℚ (in_grid g c) +ℚ per_unit (in_grid_ℚ g x) ≡ in_grid_ℚ g (wholeℚ c +ℚ per_unit x)
unfolding in_grid per_unit
sum-in-grid g c x =
    let s = pos g.scale in
    rw (scaleℚ-whole s c, scaleℚ-quotient s x 100000000 (lit< tt)) (scaleℚ-+ℚ s (wholeℚ c) (per_unit x))

-- one year holds c + a·y/10^8
pub kappa_step-holds : (g : Grid) (d : Dynamics) {e : SignedEnds} (y : Fraction) → Holds e (in_grid_ℚ g y)
    → Holds (kappa_step g d e) (in_grid_ℚ g (wholeℚ d.c +ℚ per_unit (scaleℚ d.a y)))
unfolding kappa_step per_unit
kappa_step-holds g d {e} y h =
    let a = d.a in
    rw (← sum-in-grid g d.c (scaleℚ a y), ← scaleℚ-swap (pos g.scale) a y)
    (shifted-holds (in_grid g d.c)
    (outward-holds (least_product a e) (greatest_product a e) (lit< tt) (least-product a h) (greatest-product a h)))

-- a number of a set holds itself
number-holds : (g : Grid) (z : ℤ) → Holds (record { lower = in_grid g z; upper = in_grid g z }) (in_grid_ℚ g (wholeℚ z))
unfolding in_grid
number-holds g z =
    let y = pos g.scale *ℤ z in
    rw (← scaleℚ-whole (pos g.scale) z) (record { low = ≤ℚ-refl (wholeℚ y); high = ≤ℚ-refl (wholeℚ y) })

-- and kappa the exact one
pub kappa-holds : (g : Grid) (p : Params) (n : ℕ) → Holds (kappa g p n) (in_grid_ℚ g (exact_kappa p n))
unfolding kappa_in exact_kappa
kappa-holds g p zero = number-holds g p.kappa
kappa-holds g p (suc n) = kappa_step-holds g (dynamics_of p) (exact_kappa p n) (kappa-holds g p n)
