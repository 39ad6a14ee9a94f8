-- The ends of −m, of the exponential and of H as the code forms them, for a log force m in range: each fits 64 bits and is
-- read as the number that the definition has.
use mathlib.Core.Path.{◌≡◌, refl, ◌∙◌}
use Prim.Native.Nat.{ℕ, zero, suc, ◌+◌, ◌*◌, ◌≤◌, ◌<◌}
use native.Mathlib.Nat.{le_trans, div-le_self, mul-le-mul_left, mul-le-mul_right}
use native.Mathlib.Omega.{arith}
use lib.Dec.{T, lit≤}
use lib.IntN.{ℤ, pos, nat_abs, ◌+ℤ◌, ◌-ℤ◌}
use lib.Signed.{non_neg}
use mir.Syntax.{w64}
use mir.Val.{Fits, SFits}
use mir.Facts.{to_z-of_z}
use Rattle.number_whole.specs.Parts.{below}
use Rattle.number_whole.proofs.laws.Sign.{below-sign, below-size}
use Rattle.number_whole.specs.code.Sizes.{Under}
use Rattle.number_whole.proofs.laws.Bound.{bits, under-pos, under-weaken, under-add, fits, back}
use Rattle.number_whole.proofs.laws.DivisionLaws.{ceilℕ-least}
use Rattle.number_whole.specs.declared.SignedEnds.{SignedEnds}
use Rattle.number_exponential.specs.declared.Ends.{Ends}
use Rattle.number_exponential.specs.Exponential.{exp_between}
use Rattle.number_exponential.specs.Grid.{Grid}
use Rattle.number_exponential.specs.declared.GridUnit.{GridUnit}
use Rattle.number_exponential.specs.declared.GridUnit.TheVariants.{Coarse, Fine}
use Rattle.number_exponential.specs.Units.{grid_of}
use Rattle.number_exponential.proofs.laws.GridFacts.{unit-sound}
use Rattle.number_exponential.proofs.laws.Scales.{most_scale, scale-most}
use Rattle.number_exponential.proofs.laws.AtMostOne.{exp-lower-one, exp-upper-one}
use Rattle.number_whole.proofs.Signed.{sum}
use Rattle.model_log_force.specs.LogForce.{lowest_force}
use Rattle.model_log_force.specs.code.Within.{Negated}
use Rattle.model_log_force.proofs.laws.RangeLaws.{scale-some}
use Rattle.model_logarithm.specs.Logarithm.{power_lower, power_upper, log_terms_lower, log_terms_upper, log_rest, log_lower, log_upper}
use Rattle.model_logarithm.proofs.laws.Powers.{power-lower-bound, power-upper-bound}
use Rattle.model_logarithm.proofs.laws.GridFacts.{unit-fine}
use Rattle.model_logistic.proofs.Force.{negated}

-- ---- −m

-- no end of a log force in range lies further from 0, on either grid
abbrev pub range_limit : ℕ
range_limit = most_scale * below lowest_force

-- −z as the code forms it from z < 0: it fits, is cast to a number without a sign, and is z's part below 0
pub record Minus (z : ℤ) : Type 0 where
  pub fits : SFits w64 (pos 0 -ℤ bits z)
  pub cast : T (non_neg (bits (pos 0 -ℤ bits z))) × Fits w64 (nat_abs (bits (pos 0 -ℤ bits z)))
  pub size : nat_abs (bits (pos 0 -ℤ bits z)) ≡ below z

minus : (z : ℤ) → 0 < below z → below z ≤ range_limit → Minus z × Under z range_limit
minus z h k =
    let b = below-sign z h in
    let u : Under z range_limit = record { under = rw (below-size b) k } in
    let s = negated (under-weaken u (lit≤ tt)) b in
    (record { fits = s.fits; cast = s.cast; size = s.size ∙ below-size b }, u)

module _ (u : GridUnit) {m : SignedEnds} {w : ℕ} (r : Negated (grid_of u) m w) where
  most : below m.lower ≤ range_limit
  most = le_trans r.most (mul-le-mul_right (below lowest_force) (scale-most u))

  lower-minus : Minus m.lower × Under m.lower range_limit
  lower-minus = minus m.lower (omega (arith, r.least, r.ordered, scale-some (grid_of u))) most

  upper-minus : Minus m.upper × Under m.upper range_limit
  upper-minus = minus m.upper (omega (arith, r.least, scale-some (grid_of u))) (le_trans r.ordered most)

  pub minus-lower : Minus m.lower
  minus-lower = lower-minus.0

  pub minus-upper : Minus m.upper
  minus-upper = upper-minus.0

  pub under-lower : Under m.lower range_limit
  under-lower = lower-minus.1

  pub under-upper : Under m.upper range_limit
  under-upper = upper-minus.1

-- ---- the exponential's ends are at most the unit

pub exp-small : (u : GridUnit) (z : Ends) {e : Ends} → e ≡ exp_between (grid_of u) z → (e.lower ≤ (grid_of u).unit) × (e.upper ≤ (grid_of u).unit)
unfolding exp_between
exp-small u z e =
    rw e (exp-lower-one (grid_of u) (unit-sound u) z.upper, exp-upper-one (grid_of u) (unit-sound u) z.lower)

-- ---- the logarithm's ends are at most as many units as it has terms, and one more

-- on either grid
abbrev pub log_limit : ℕ
log_limit = 430000000000000

log-most : (u : GridUnit) → (grid_of u).log_terms * (grid_of u).unit + (grid_of u).unit ≤ log_limit
unfolding grid_of
log-most u = elim u as (λ v. (grid_of v).log_terms * (grid_of v).unit + (grid_of v).unit ≤ log_limit) [ Coarse ↦ lit≤ tt | Fine ↦ lit≤ tt ]

module _ (g : Grid) (z : ℕ) (h : z ≤ g.unit) where
  lower-terms : (n : ℕ) → log_terms_lower g z n ≤ n * g.unit
  unfolding log_terms_lower
  lower-terms zero = omega arith
  lower-terms (suc n) =
      omega (
        arith,
        lower-terms n,
        div-le_self (power_lower g z (suc n)) (suc n),
        power-lower-bound g g.positive z h (suc n),
      )

  upper-terms : (n : ℕ) → log_terms_upper g z n ≤ n * g.unit
  unfolding log_terms_upper
  upper-terms zero = omega arith
  upper-terms (suc n) =
      omega (
        arith,
        upper-terms n,
        ceilℕ-least g.unit (power_upper g z (suc n)) {m = suc n} (omega arith)
            (omega (arith, power-upper-bound g g.positive z h (suc n))),
      )

  rest-small : 0 < g.log_terms → log_rest g z ≤ g.unit
  unfolding log_rest
  rest-small some =
      ceilℕ-least g.unit (2 * power_upper g z (suc g.log_terms)) {m = suc g.log_terms} (omega arith)
      (omega (arith, power-upper-bound g g.positive z h (suc g.log_terms), mul-le-mul_left g.unit some))

module _ (u : GridUnit) (z : ℕ) (h : z ≤ (grid_of u).unit) where
  pub log-lower-small : log_lower (grid_of u) z ≤ log_limit
  unfolding log_lower
  log-lower-small = omega (arith, lower-terms (grid_of u) z h (grid_of u).log_terms, log-most u)

  pub log-upper-small : log_upper (grid_of u) z ≤ log_limit
  unfolding log_upper
  log-upper-small =
      omega (arith, upper-terms (grid_of u) z h (grid_of u).log_terms, rest-small (grid_of u) z h (unit-fine u).terms-positive, log-most u)

-- ---- an end of H

-- an end of m and one of the logarithm
pub end-under : {z : ℤ} {n : ℕ} → Under z range_limit → n ≤ log_limit → Under (z +ℤ pos n) (range_limit + log_limit)
end-under u h = under-add u (under-pos h)

pub end-sum : {z : ℤ} {n : ℕ} → Under z range_limit → n ≤ log_limit
    → SFits w64 (bits z +ℤ bits (pos n)) × (bits (bits z +ℤ bits (pos n)) ≡ z +ℤ pos n)
end-sum u h = sum (back u tt) (to_z-of_z (fits (under-pos h) tt)) refl (fits (end-under u h) tt)
