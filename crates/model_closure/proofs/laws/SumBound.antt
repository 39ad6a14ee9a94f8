-- The weighted sum exactly, how far from 0: where the ends of the eleven intervals lie within B of 0, those of G lie
-- within 10·B.
use Rattle.std.specs.Prelude.{List, ℤ, pos, negsuc, nat_abs}
use Prim.Native.Nat.{ℕ, zero, suc, ◌+◌, ◌*◌, ◌≤◌, ◌<◌}
use Rattle.std.proofs.Common.{mul-le-mul_right, le_refl, arith, lit<}
use Rattle.number_whole.specs.code.Sizes.{Under}
use Rattle.number_whole.proofs.laws.Bound.{under-add, under-mul}
use Rattle.number_fraction.specs.Ratio.{Ratio, ◌≤/◌, whole/, ◌+/◌, ◌*/◌, quotient/}
use Rattle.number_fraction.proofs.laws.RatioLaws.{≤/-refl, ≤/-trans, whole/-+/, +/-mono, +/-*/, */-mono, quotient/-≤/}
use Rattle.number_fraction.specs.Fraction.{Fraction, wholeℚ, absolute, ◌+ℚ◌, scaleℚ, quotientℚ}
use Rattle.model_closure.specs.Weights.{fitted, first_closed, last_closed, weight_unit, weight}
use Rattle.model_closure.specs.code.Totals.{most_size, size_total}
use Rattle.model_closure.proofs.laws.WeightLaws.{weights-size}
use Rattle.model_logistic.specs.Units.{Interval}
use Rattle.model_logistic.proofs.laws.SignedUnits.{Bounded}
use Rattle.model_closure.specs.Exact.{interval_at, least_scaled, greatest_scaled, exact_least_sum}
use Rattle.model_closure.specs.Exact.{exact_greatest_sum, exact_closed_sum}

itself : (z : ℤ) → Under z (nat_abs z)
itself z = record { under = le_refl (nat_abs z) }

-- |x + y| ≤ |x| + |y|
pub absolute-sum : (x y : Fraction) → absolute (x +ℚ y) ≤/ absolute x +/ absolute y
unfolding absolute ◌+ℚ◌ ◌+/◌
absolute-sum x y =
    let u = under-add (under-mul (itself x.num) (itself (pos y.den)))
    (under-mul (itself y.num) (itself (pos x.den))) in
    record { cross = mul-le-mul_right (x.den * y.den) u.under }

-- |w·y| ≤ |w|·|y|
absolute-scale : (w : ℤ) (y : Fraction) → absolute (scaleℚ w y) ≤/ whole/ (nat_abs w) */ absolute y
unfolding absolute scaleℚ whole/ ◌*/◌
absolute-scale w y =
    let u = under-mul (itself w) (itself y.num) in
    record { cross = omega (arith, mul-le-mul_right y.den u.under) }

absolute-zero : (B : Ratio) → absolute (wholeℚ (pos 0)) ≤/ B
unfolding absolute wholeℚ
absolute-zero B = omega arith

scale-bound : (w : ℤ) (y : Fraction) (B : Ratio) → absolute y ≤/ B → absolute (scaleℚ w y) ≤/ whole/ (nat_abs w) */ B
scale-bound w y B h = ≤/-trans (absolute-scale w y) (*/-mono (≤/-refl (whole/ (nat_abs w))) h)

product-bound : (w : ℤ) (I : Interval) (B : Ratio) → Bounded B I
    → absolute (least_scaled w I) ≤/ whole/ (nat_abs w) */ B × absolute (greatest_scaled w I) ≤/ whole/ (nat_abs w) */ B
unfolding least_scaled greatest_scaled
product-bound (pos k) I B b = (scale-bound (pos k) I.least B b.low, scale-bound (pos k) I.most B b.high)
product-bound (negsuc k) I B b =
    (scale-bound (negsuc k) I.most B b.high, scale-bound (negsuc k) I.least B b.low)

-- |x| ≤ k·B and |y| ≤ l·B give |x + y| ≤ (k + l)·B
sum_step : (x y : Fraction) (k l : ℕ) (B : Ratio) → absolute x ≤/ whole/ k */ B → absolute y ≤/ whole/ l */ B
    → absolute (x +ℚ y) ≤/ whole/ (k + l) */ B
sum_step x y k l B h m =
    ≤/-trans (absolute-sum x y)
    (≤/-trans (+/-mono h m)
    (≤/-trans (+/-*/ (whole/ k) (whole/ l) B).above (*/-mono (whole/-+/ k l).above (≤/-refl B))))

-- S·B/110 ≤ 10·B for S ≤ 1,060
size-algebra : (S : ℕ) (B : Ratio) → S ≤ most_size → whole/ S */ B ≤/ whole/ 10 */ B */ whole/ weight_unit
unfolding whole/ ◌*/◌
size-algebra S B h = record { cross = omega (arith, mul-le-mul_right (B.num * B.den) h) }

quotient-bound : (y : Fraction) (S : ℕ) (B : Ratio) → S ≤ most_size → absolute y ≤/ whole/ S */ B
    → absolute (quotientℚ y weight_unit (lit< tt)) ≤/ whole/ 10 */ B
unfolding absolute quotientℚ quotient/
quotient-bound y S B h m = (quotient/-≤/ {x = absolute y} weight_unit (lit< tt)).0 (≤/-trans m (size-algebra S B h))

module _ (x : ℕ) (es : List Interval) (B : Ratio) where
  sum_bound : (n : ℕ) → ((i : ℕ) → i < n → Bounded B (interval_at es i))
      → absolute (exact_least_sum x es n) ≤/ whole/ (size_total x n) */ B
      × absolute (exact_greatest_sum x es n) ≤/ whole/ (size_total x n) */ B
  unfolding exact_least_sum exact_greatest_sum size_total
  sum_bound zero b = (absolute-zero (whole/ 0 */ B), absolute-zero (whole/ 0 */ B))
  sum_bound (suc n) b =
      let w = weight x n in
      let I = interval_at es n in
      let u = sum_bound n (λ i l. b i (omega arith)) in
      let v = product-bound w I B (b n (omega arith)) in (
        sum_step (exact_least_sum x es n) (least_scaled w I) (size_total x n) (nat_abs w) B u.0 v.0,
        sum_step (exact_greatest_sum x es n) (greatest_scaled w I) (size_total x n) (nat_abs w) B u.1 v.1,
      )

  -- where H's ends lie within B of 0, G's lie within 10·B
  pub closed_sum-bounded : first_closed ≤ x → x ≤ last_closed → ((i : ℕ) → i < fitted → Bounded B (interval_at es i))
      → Bounded (whole/ 10 */ B) (exact_closed_sum x es)
  unfolding exact_closed_sum
  closed_sum-bounded l m b =
      let u = sum_bound fitted b in
      record {
        low = quotient-bound (exact_least_sum x es fitted) (size_total x fitted) B (weights-size x l m) u.0;
        high = quotient-bound (exact_greatest_sum x es fitted) (size_total x fitted) B (weights-size x l m) u.1;
      }
