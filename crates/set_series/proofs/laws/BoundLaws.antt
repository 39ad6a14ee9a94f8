-- How far from zero the time series lie: K in every year of a table whose K is in its limits, kappa a year on, and kappa in
-- every year where nothing is added to it.
use Rattle.std.specs.Prelude.{◌≡◌, ℕ, zero, suc, ◌+◌, ◌*◌, ◌≤◌, ℤ, pos, negsuc, ◌+ℤ◌, ◌*ℤ◌}
use Rattle.std.proofs.Common.{mul-le-mul_right, le_refl, arith, lit<}
use Rattle.number_whole.proofs.laws.Split.{split, split-add, split-scale-left}
use Rattle.number_whole.specs.code.Sizes.{Under, Within}
use Rattle.number_whole.proofs.laws.Bound.{under-lit, under-pos, under-weaken, under-add, under-mul, under-between, under_low, under-high}
use Rattle.number_whole.specs.declared.SignedEnds.{SignedEnds}
use Rattle.number_whole.specs.SignedEnds.{least_product, greatest_product, outward}
use Rattle.number_whole.proofs.laws.EndLaws.{least_under, greatest-under, outward-under, shifted-under}
use Rattle.number_exponential.specs.Grid.{Grid}
use Rattle.set_params.specs.declared.Dynamics.{Dynamics}
use Rattle.set_params.specs.Limits.{a_limit, period_limit, kappa_limit, constant_limit, last_years}
use Rattle.set_params.specs.code.Within.{PeriodWithin, DynamicsWithin}
use Rattle.set_series.specs.Series.{coefficient_unit, in_grid, period_in, kappa_step, kappa_in}

-- k + n·t lies between k and k + m·t
between : (k t : ℤ) {n m b : ℕ} → n ≤ m → Under k b → Under (k +ℤ pos m *ℤ t) b → Under (k +ℤ pos n *ℤ t) b
between k (pos t) {n} {m} {b} h u v =
    let l = under_low u in
    let r = under-high v in
    let g = mul-le-mul_right t h in
    under-between (omega (split, split-add k (pos (n * t))))
    (omega (split, split-add k (pos (n * t)), split-add k (pos (m * t))))
between k (negsuc t) {n} {m} {b} h u v =
    let l = under_low v in
    let r = under-high u in
    let g = mul-le-mul_right (suc t) h in
    let z = negsuc t in
    let a = split-add k (pos n *ℤ z) in
    let s = split-scale-left n z in
    under-between (omega (split, split-add k (pos m *ℤ z), split-scale-left m z)) (omega split)

-- the period's index in a year of a quote
pub period-under : {start theta : ℤ} {n : ℕ} → PeriodWithin start theta → n ≤ last_years → Under (period_in start theta n) period_limit
unfolding period_in
period-under {start} {theta} l h = between start theta h l.start l.last

-- a number of a set in a grid's units
pub in_grid-under : (g : Grid) {z : ℤ} {k : ℕ} → Under z k → Under (in_grid g z) (g.scale * k)
unfolding in_grid
in_grid-under g u = under-mul (under-pos (le_refl g.scale)) u

-- the product of a year, over the unit
pub product-under : {a : ℤ} {k : ℕ} {e : SignedEnds} → Under a a_limit → Within k e
    → Within k (outward (least_product a e) (greatest_product a e) coefficient_unit)
product-under {k} u v = outward-under k (lit< tt) (omega arith) (least_under u v) (greatest-under u v)

-- kappa a year on
pub kappa_step-under : (g : Grid) {d : Dynamics} {e : SignedEnds} {k : ℕ} → DynamicsWithin d → Within k e
    → Within (g.scale * constant_limit + k) (kappa_step g d e)
unfolding kappa_step
kappa_step-under g l v = shifted-under (in_grid-under g l.c) (product-under l.a v)

-- with nothing added it stays within its limit
pub kappa-under : (g : Grid) {d : Dynamics} {start : ℤ} → DynamicsWithin d → d.c ≡ pos 0 → Under start kappa_limit → (n : ℕ)
    → Within (g.scale * kappa_limit) (kappa_in g d start n)
unfolding kappa_in kappa_step
kappa-under g l z v zero = record { low = in_grid-under g v; high = in_grid-under g v }
kappa-under g {d} l z v (suc n) =
    let none : Under d.c 0 = rw z (under-lit {z = pos 0} {k = 0} tt) in
    let w = product-under l.a (kappa-under g l z v n) in
    let u = in_grid-under g none in
    record { low = under-weaken (under-add u w.low) (omega arith); high = under-weaken (under-add u w.high) (omega arith) }
