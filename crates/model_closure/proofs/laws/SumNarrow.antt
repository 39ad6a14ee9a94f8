-- The weighted sum exactly: where each of the eleven intervals is at most e wide, that of G is at most 10·e wide,
-- since the weights' sizes total at most 1,060 of 110.
use Rattle.std.specs.Prelude.{List, ℤ, pos, negsuc, nat_abs}
use Prim.Native.Nat.{ℕ, zero, suc, ◌+◌, ◌*◌, ◌≤◌, ◌<◌}
use Rattle.std.proofs.Common.{mul-le-mul_right, arith, lit<}
use Rattle.number_whole.proofs.laws.Split.{split}
use Rattle.number_whole.proofs.laws.Difference.{difference, difference-pos, difference-add, difference-scale, difference-mul}
use Rattle.number_whole.proofs.laws.Order.{pos-nonneg}
use Rattle.number_fraction.specs.Ratio.{Ratio, whole/, ◌*/◌}
use Rattle.number_fraction.specs.Fraction.{Fraction, ◌≤ℚ◌, wholeℚ, signed, ◌+ℚ◌, scaleℚ, quotientℚ}
use Rattle.number_fraction.proofs.laws.FractionTerms.{◌≈ℚ◌, ◌*ℚ◌}
use Rattle.number_fraction.proofs.laws.FractionLaws.{≤ℚ-refl, ≤ℚ-trans, ≈ℚ-difference, +ℚ-mono, +ℚ-comm, +ℚ-assoc, +ℚ-zero}
use Rattle.number_fraction.proofs.laws.FractionLaws.{scaleℚ-keeps, scaleℚ-exchanges, scaleℚ-+ℚ, +ℚ-*ℚ, quotientℚ-≤ℚ, quotientℚ-*ℚ}
use Rattle.model_closure.specs.Weights.{fitted, first_closed, last_closed, weight_unit, weight}
use Rattle.model_closure.specs.code.Totals.{most_size, size_total}
use Rattle.model_closure.proofs.laws.WeightLaws.{weights-size}
use Rattle.model_logistic.specs.Units.{Interval}
use Rattle.model_closure.proofs.laws.WeightedSum.{negsuc-nonpos}
use Rattle.model_closure.specs.Exact.{interval_at, least_scaled, greatest_scaled, exact_least_sum}
use Rattle.model_closure.specs.Exact.{exact_greatest_sum, exact_closed_sum}

-- ---- fractions

-- (a + b) + (c + d) = (a + c) + (b + d)
interchange : (a b c d : Fraction) → (a +ℚ b) +ℚ (c +ℚ d) ≤ℚ (a +ℚ c) +ℚ (b +ℚ d)
interchange a b c d =
    ≤ℚ-trans (+ℚ-assoc a b (c +ℚ d)).below
    (≤ℚ-trans (+ℚ-mono (≤ℚ-refl a) (≤ℚ-trans (+ℚ-assoc b c d).above
    (≤ℚ-trans (+ℚ-mono (+ℚ-comm b c).below (≤ℚ-refl d)) (+ℚ-assoc c b d).below)))
    (+ℚ-assoc a c (b +ℚ d)).above)

-- −k·x + k·x = 0
opposite : (k : ℕ) (x : Fraction) → scaleℚ (negsuc k) x +ℚ scaleℚ (pos (suc k)) x ≈ℚ wholeℚ (pos 0)
unfolding scaleℚ ◌+ℚ◌ wholeℚ
opposite k x =
    ≈ℚ-difference
    (difference-add (difference-scale (difference-mul (difference (negsuc k)) (difference x.num)) x.den)
    (difference-scale (difference-mul (difference-pos (suc k)) (difference x.num)) x.den))
    (difference-pos 0) (omega arith)

-- k·x + l·x = (k + l)·x
scale-sum : (k l : ℕ) (x : Fraction) → scaleℚ (pos k) x +ℚ scaleℚ (pos l) x ≈ℚ scaleℚ (pos (k + l)) x
unfolding scaleℚ ◌+ℚ◌
scale-sum k l x =
    ≈ℚ-difference
    (difference-add (difference-scale (difference-mul (difference-pos k) (difference x.num)) x.den)
    (difference-scale (difference-mul (difference-pos l) (difference x.num)) x.den))
    (difference-mul (difference-pos (k + l)) (difference x.num)) (omega arith)

scale-nonneg : (k : ℕ) (e : Ratio) → wholeℚ (pos 0) ≤ℚ scaleℚ (pos k) (signed e)
unfolding scaleℚ signed wholeℚ
scale-nonneg k e = omega split

-- ---- one product: a weight w widens e to |w|·e

product_narrow : (w : ℤ) (I : Interval) (e : Ratio) → I.most ≤ℚ I.least +ℚ signed e
    → greatest_scaled w I ≤ℚ least_scaled w I +ℚ scaleℚ (pos (nat_abs w)) (signed e)
unfolding greatest_scaled least_scaled
product_narrow (pos k) I e h =
    ≤ℚ-trans (scaleℚ-keeps {k = pos k} (pos-nonneg k) h) (scaleℚ-+ℚ (pos k) I.least (signed e)).below
product_narrow (negsuc k) I e h =
    let w = negsuc k in
    let a = scaleℚ w I.least in
    let m = scaleℚ w (signed e) in
    let p = scaleℚ (pos (suc k)) (signed e) in
    ≤ℚ-trans (+ℚ-zero a).above
    (≤ℚ-trans (+ℚ-mono (≤ℚ-refl a) (opposite k (signed e)).above)
    (≤ℚ-trans (+ℚ-assoc a m p).above
    (+ℚ-mono
    (≤ℚ-trans (scaleℚ-+ℚ w I.least (signed e)).above (scaleℚ-exchanges {k = w} (negsuc-nonpos k) h))
    (≤ℚ-refl p))))

-- ---- the sums of the first n, and G

-- S·e ≤ 10·e·110 for S ≤ 1,060
size-algebra : (S : ℕ) (e : Ratio) → S ≤ most_size
    → scaleℚ (pos S) (signed e) ≤ℚ signed (whole/ 10 */ e) *ℚ wholeℚ (pos weight_unit)
unfolding scaleℚ signed whole/ ◌*/◌ ◌*ℚ◌ wholeℚ
size-algebra S e h = record { cross = omega (split, mul-le-mul_right (e.num * e.den) h) }

module _ (x : ℕ) (es : List Interval) (e : Ratio) where
  sum-narrow : (n : ℕ) → ((i : ℕ) → i < n → (interval_at es i).most ≤ℚ (interval_at es i).least +ℚ signed e)
      → exact_greatest_sum x es n ≤ℚ exact_least_sum x es n +ℚ scaleℚ (pos (size_total x n)) (signed e)
  unfolding exact_greatest_sum exact_least_sum size_total
  sum-narrow zero h = ≤ℚ-trans (+ℚ-zero (wholeℚ (pos 0))).above (+ℚ-mono (≤ℚ-refl (wholeℚ (pos 0))) (scale-nonneg 0 e))
  sum-narrow (suc n) h =
      let w = weight x n in
      let I = interval_at es n in
      let k = size_total x n in
      ≤ℚ-trans (+ℚ-mono (sum-narrow n (λ i l. h i (omega arith))) (product_narrow w I e (h n (omega arith))))
      (≤ℚ-trans (interchange (exact_least_sum x es n) (scaleℚ (pos k) (signed e)) (least_scaled w I)
      (scaleℚ (pos (nat_abs w)) (signed e)))
      (+ℚ-mono (≤ℚ-refl (exact_least_sum x es n +ℚ least_scaled w I)) (scale-sum k (nat_abs w) (signed e)).below))

  -- where each interval of H is at most e wide, that of G is at most 10·e wide
  pub closed_sum-narrow : first_closed ≤ x → x ≤ last_closed
      → ((i : ℕ) → i < fitted → (interval_at es i).most ≤ℚ (interval_at es i).least +ℚ signed e)
      → (exact_closed_sum x es).most ≤ℚ (exact_closed_sum x es).least +ℚ signed (whole/ 10 */ e)
  unfolding exact_closed_sum
  closed_sum-narrow l m h =
      let L = exact_least_sum x es fitted in
      let q = quotientℚ L weight_unit (lit< tt) in
      let t = signed (whole/ 10 */ e) in
      (quotientℚ-≤ℚ weight_unit (lit< tt)).0
      (≤ℚ-trans (sum-narrow fitted h)
      (≤ℚ-trans (+ℚ-mono (quotientℚ-*ℚ L weight_unit (lit< tt)).above
      (size-algebra (size_total x fitted) e (weights-size x l m)))
      (+ℚ-*ℚ q t (wholeℚ (pos weight_unit))).above))
