-- The log force of a cell as the code forms it, for a cell in its limits: each step fits 64 bits and is read as the
-- number that the definition has.
use mathlib.Core.Path.{◌≡◌, refl, ◌∙◌}
use mathlib.Core.Bool.{true, false}
use Prim.Native.Nat.{◌*◌, ◌≤◌}
use native.Mathlib.Nat.{mul-le-mul_right}
use native.Mathlib.Omega.{arith}
use lib.IntN.{ℤ, ◌+ℤ◌, ◌*ℤ◌}
use mir.Syntax.{w64}
use mir.Val.{SFits}
use Rattle.number_whole.specs.Division.{floor_div, ceil_div}
use Rattle.number_whole.specs.code.Sizes.{Under, Within}
use Rattle.number_whole.proofs.laws.Bound.{bits, fits, back, under-add, under-mul, under-weaken, under-floor, under-ceil, under-floor-to, under-ceil-to}
use Rattle.number_whole.specs.declared.SignedEnds.{SignedEnds}
use Rattle.number_whole.specs.SignedEnds.{least_product, greatest_product, outward}
use Rattle.number_whole.proofs.laws.EndLaws.{outward-under}
use Rattle.number_whole.proofs.Signed.{read, sum, product}
use Rattle.number_exponential.specs.declared.GridUnit.{GridUnit}
use Rattle.number_exponential.specs.Units.{grid_of}
use Rattle.number_exponential.proofs.laws.Scales.{most_scale, under-scaled}
use Rattle.set_params.specs.declared.Age.{Age}
use Rattle.set_params.specs.Limits.{a_limit, kappa_limit}
use Rattle.set_series.specs.Series.{coefficient_unit, in_grid}
use Rattle.set_series.specs.code.Within.{number_limit, mixed_over, MixedWithin}
use Rattle.set_series.proofs.laws.BoundLaws.{in_grid-under}
use Rattle.set_series.proofs.laws.Mixed.{end_by, least-over, greatest-over}
use Rattle.model_log_force.specs.LogForce.{cell_force}
use Rattle.model_log_force.specs.code.Within.{CellLimits}
use Rattle.model_log_force.proofs.laws.BoundLaws.{force_limit, quotients-under, cell_force-under}

module _ (u : GridUnit) {age : Age} {k : ℤ} {e : SignedEnds} (l : CellLimits (grid_of u) age k e) where
  -- A + alpha, and that in the grid's units
  pub number-under : Under (age.level +ℤ age.alpha) number_limit
  number-under = under-add l.age.level l.age.alpha

  pub number : SFits w64 (bits age.level +ℤ bits age.alpha)
      × (bits (bits age.level +ℤ bits age.alpha) ≡ age.level +ℤ age.alpha)
  number = sum (back l.age.level tt) (back l.age.alpha tt) refl (fits number-under tt)

  pub fixed : {r n : ℤ} → n ≡ age.level +ℤ age.alpha → r ≡ in_grid (grid_of u) n → bits r ≡ in_grid (grid_of u) (age.level +ℤ age.alpha)
  fixed f h = read (rw f at h) (fits (under-scaled u number_limit (in_grid-under (grid_of u) number-under)) tt)

  -- B-as-K
  pub trend : SFits w64 (bits age.slope *ℤ bits k) × (bits (bits age.slope *ℤ bits k) ≡ age.slope *ℤ k)
  trend = product (back l.age.slope tt) (back l.period tt) refl (fits (under-mul l.age.slope l.period) tt)

  pub beta-under : Under age.beta a_limit
  beta-under = under-weaken l.age.beta (omega arith)

  -- what the quotient asks
  pub within : {z : ℤ} → Under z ((grid_of u).scale * kappa_limit) → MixedWithin (grid_of u) (age.slope *ℤ k) age.beta z
  within h =
      let t = under-mul l.age.slope l.period in
      record { factor = beta-under; total = omega (arith, t.under, mul-le-mul_right kappa_limit l.age.beta.under); end = h }

  -- the two ends
  pub lower-end : {f q : ℤ} → f ≡ in_grid (grid_of u) (age.level +ℤ age.alpha)
      → q ≡ mixed_over (grid_of u) (age.slope *ℤ k) age.beta (end_by age.beta e.lower e.upper) false
      → SFits w64 (f +ℤ bits q) × (bits (f +ℤ bits q) ≡ (cell_force (grid_of u) age k e).lower)
  unfolding cell_force outward
  lower-end h d =
      sum h (read (d ∙ least-over (grid_of u) (age.slope *ℤ k) age.beta e) (fits (under-scaled u _ (quotients-under l).low) tt)) refl
      (fits (under-scaled u force_limit (cell_force-under l).low) tt)

  pub upper-end : {f q : ℤ} → f ≡ in_grid (grid_of u) (age.level +ℤ age.alpha)
      → q ≡ mixed_over (grid_of u) (age.slope *ℤ k) age.beta (end_by age.beta e.upper e.lower) true
      → SFits w64 (f +ℤ bits q) × (bits (f +ℤ bits q) ≡ (cell_force (grid_of u) age k e).upper)
  unfolding cell_force outward
  upper-end h d =
      sum h (read (d ∙ greatest-over (grid_of u) (age.slope *ℤ k) age.beta e) (fits (under-scaled u _ (quotients-under l).high) tt)) refl
      (fits (under-scaled u force_limit (cell_force-under l).high) tt)
