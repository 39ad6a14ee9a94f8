-- `mixed_over` meets its contract, unit by unit: the coarse sum fits.
use mathlib.Core.Path.{◌≡◌, refl, sym, ap, subst, ◌∙◌}
use mathlib.Core.Bool.{Bool, cond}
use Prim.Native.Nat.{◌*◌}
use native.Mathlib.Omega.{arith}
use lib.Dec.{lit≤}
use lib.IntN.{ℤ, nat_abs, ◌+ℤ◌, ◌*ℤ◌}
use mir.Syntax.{w64}
use mir.Val.{SFits}
use mir.Facts.{to_z-of_z}
use Rattle.number_whole.specs.Division.{floor_div, ceil_div}
use Rattle.number_whole.specs.code.Sizes.{Under, Divides}
use Rattle.number_whole.proofs.laws.Bound.{bits, fits, under-add, under-mul, under-weaken, divides}
use Rattle.number_whole.proofs.Signed.{sum, product}
use Rattle.number_exponential.specs.declared.GridUnit.{GridUnit}
use Rattle.number_exponential.specs.Units.{billionths, grid_of}
use Rattle.set_params.specs.Limits.{kappa_limit}
use Rattle.set_series.specs.Series.{coefficient_unit}
use Rattle.set_series.proofs.laws.Finer.{in_grid-coarse}
use Rattle.set_series.specs.code.Within.{mixed_over, mixed_limit, MixedWithin}
use Rattle.set_series.proofs.mixed_over.Goals as goal

-- what is asked, on the grid of a unit that is known
asked : {b d : GridUnit} {p c z : ℤ} → b ≡ d → MixedWithin (grid_of b) p c z → MixedWithin (grid_of d) p c z
asked {p} {c} {z} e w = subst (λ b. MixedWithin (grid_of b) p c z) e w

-- each step of the coarse sum fits and is read as it is
module _ {p c z : ℤ} (w : MixedWithin billionths p c z) (fp : SFits w64 p) (fc : SFits w64 c) (fz : SFits w64 z) where
  product-under : Under (c *ℤ z) (nat_abs c * kappa_limit)
  product-under = under-mul {a = c} {b = z} (record { under = omega arith }) (under-weaken w.end (omega arith))

  product-limit : Under (c *ℤ z) mixed_limit
  product-limit = under-weaken product-under (omega (arith, w.total))

  sum-limit : Under (p +ℤ c *ℤ z) mixed_limit
  sum-limit = under-weaken (under-add {a = p} (record { under = omega arith }) product-under) w.total

  mul : SFits w64 (bits c *ℤ bits z) × (bits (bits c *ℤ bits z) ≡ c *ℤ z)
  mul = product (to_z-of_z fc) (to_z-of_z fz) refl (fits product-limit tt)

  add : let r = bits p +ℤ bits (bits c *ℤ bits z) in SFits w64 r × (bits r ≡ p +ℤ c *ℤ z)
  add = sum (to_z-of_z fp) mul.1 refl (fits sum-limit tt)

  sum-asked : {y : ℤ} → y ≡ p +ℤ c *ℤ z → Divides y coefficient_unit 60000000000
  sum-asked e = rw e (divides tt (under-weaken sum-limit (lit≤ tt)) tt)

  coarse : {r y : ℤ} (upper : Bool) → y ≡ p +ℤ c *ℤ z → r ≡ cond upper (ceil_div y coefficient_unit) (floor_div y coefficient_unit)
      → r ≡ mixed_over billionths p c z upper
  unfolding mixed_over
  coarse upper g e = rw (in_grid-coarse p, ← g) e

-- ---- the function's needs

asked₁ : (c : goal.In-Coarse) → let s = c.before in MixedWithin billionths s.args.p s.args.c s.args.z
unfolding grid_of
asked₁ c = asked c.in-Coarse.is c.before.requires

pub fine_over-requires : goal.fine_over-requires
unfolding grid_of
fine_over-requires c =
    let s = c.before in
    rw (to_z-of_z s.ranges.p, to_z-of_z s.ranges.c, to_z-of_z s.ranges.z) (asked c.in-Fine.is s.requires)

pub overflow_mul-c : goal.overflow_mul-c
overflow_mul-c c = let s = c.before in (mul (asked₁ c) s.ranges.p s.ranges.c s.ranges.z).0

pub overflow_add-p : goal.overflow_add-p
overflow_add-p c = let s = c.before in (add (asked₁ c) s.ranges.p s.ranges.c s.ranges.z).0

pub outward_div-requires : goal.outward_div-requires
outward_div-requires c =
    let s = c.before in
    sum-asked (asked₁ c) s.ranges.p s.ranges.c s.ranges.z (add (asked₁ c) s.ranges.p s.ranges.c s.ranges.z).1

pub returns-in-Fine : goal.returns-in-Fine
unfolding grid_of
returns-in-Fine c =
    let a = c.before in
    let s = a.before in
    to_z-of_z {w = w64} (record { sfits = c.fine_over.type_inv })
    ∙ rw (to_z-of_z s.ranges.p, to_z-of_z s.ranges.c, to_z-of_z s.ranges.z) at c.fine_over.ensures
    ∙ sym (ap (λ b. mixed_over (grid_of b) s.args.p s.args.c s.args.z s.args.upper) a.in-Fine.is)

pub returns-in-Coarse : goal.returns-in-Coarse
unfolding grid_of
returns-in-Coarse c =
    let a = c.before in
    let s = a.before in
    to_z-of_z {w = w64} (record { sfits = c.outward_div.type_inv }) ∙ coarse (asked₁ a) s.ranges.p s.ranges.c s.ranges.z s.args.upper
    (add (asked₁ a) s.ranges.p s.ranges.c s.ranges.z).1 c.outward_div.ensures
    ∙ sym (ap (λ b. mixed_over (grid_of b) s.args.p s.args.c s.args.z s.args.upper) a.in-Coarse.is)
