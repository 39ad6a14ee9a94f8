-- The weighted sum on a grid holds the exact one: where eleven ends overlap an order's eleven intervals, place by
-- place, the ends of G overlap the order's interval of G.
use Rattle.std.specs.Prelude.{List, ℤ, ◌+ℤ◌, ◌≤ℤ◌}
use Prim.Native.Nat.{ℕ, zero, suc, ◌<◌}
use Rattle.std.proofs.Math.Nat.{mul-le-mul_right}
use Rattle.std.proofs.Common.{arith, lit<}
use Rattle.std.proofs.Math.IntN.{pos, negsuc}
use Rattle.number_whole.proofs.laws.Split.{split}
use Rattle.number_whole.proofs.laws.Difference.{difference, difference-add, difference-scale}
use Rattle.number_whole.specs.declared.SignedEnds.{SignedEnds}
use Rattle.number_whole.specs.SignedEnds.{least_product, greatest_product, outward}
use Rattle.number_whole.specs.Division.{floor_div, ceil_div}
use Rattle.number_whole.proofs.laws.DivisionLaws.{split-floor, split-ceil}
use Rattle.number_whole.proofs.laws.Order.{pos-nonneg}
use Rattle.number_fraction.specs.Fraction.{◌≤ℚ◌, wholeℚ, ◌+ℚ◌, scaleℚ, quotientℚ}
use Rattle.number_fraction.proofs.laws.FractionTerms.{◌≈ℚ◌}
use Rattle.number_fraction.proofs.laws.FractionLaws.{≤ℚ-trans, ≤ℚ-difference, ≈ℚ-difference, +ℚ-mono, scaleℚ-keeps}
use Rattle.number_fraction.proofs.laws.FractionLaws.{scaleℚ-exchanges, quotientℚ-mono}
use Rattle.number_exponential.specs.Grid.{Grid}
use Rattle.model_closure.specs.Weights.{fitted, weight_unit, weight}
use Rattle.model_logistic.specs.Units.{Interval}
use Rattle.model_logistic.proofs.laws.SignedUnits.{in_units_ℚ, SignedOverlap}
use Rattle.model_closure.specs.Closure.{ends_at, least_sum, greatest_sum, weighted_mean, closed_sum}
use Rattle.model_closure.specs.Exact.{interval_at, least_scaled, greatest_scaled, exact_least_sum}
use Rattle.model_closure.specs.Exact.{exact_greatest_sum, exact_closed_sum}

-- a negative whole number is at most 0
pub negsuc-nonpos : (n : ℕ) → negsuc n ≤ℤ pos 0
negsuc-nonpos n = omega split

module _ (g : Grid) where
  -- a sum of ends is the sum of their fractions
  units-sum : (a b : ℤ) → in_units_ℚ g (a +ℤ b) ≈ℚ in_units_ℚ g a +ℚ in_units_ℚ g b
  unfolding in_units_ℚ ◌+ℚ◌
  units-sum a b =
      ≈ℚ-difference (difference-add (difference a) (difference b))
      (difference-add (difference-scale (difference a) g.unit) (difference-scale (difference b) g.unit))
      (omega arith)

  -- a quotient rounded down is at most the quotient, one rounded up at least
  units-floor : (z : ℤ) {m : ℕ} (p : 0 < m) → in_units_ℚ g (floor_div z m) ≤ℚ quotientℚ (in_units_ℚ g z) m p
  unfolding in_units_ℚ quotientℚ
  units-floor z {m} p =
      (≤ℚ-difference (difference (floor_div z m)) (difference z)).0
      (omega (arith, mul-le-mul_right g.unit (split-floor z p).0))

  units-ceil : (z : ℤ) {m : ℕ} (p : 0 < m) → quotientℚ (in_units_ℚ g z) m p ≤ℚ in_units_ℚ g (ceil_div z m)
  unfolding in_units_ℚ quotientℚ
  units-ceil z {m} p =
      (≤ℚ-difference (difference z) (difference (ceil_div z m))).0
      (omega (arith, mul-le-mul_right g.unit (split-ceil z p).0))

  -- the products with one weight: a negative one exchanges the ends of both
  product-below : (w : ℤ) (h : SignedEnds) (e : Interval) → SignedOverlap g h e
      → in_units_ℚ g (least_product w h) ≤ℚ greatest_scaled w e
  unfolding in_units_ℚ least_product greatest_scaled scaleℚ
  product-below (pos k) h e o = scaleℚ-keeps {k = pos k} (pos-nonneg k) o.below
  product-below (negsuc k) h e o = scaleℚ-exchanges {k = negsuc k} (negsuc-nonpos k) o.above

  product-above : (w : ℤ) (h : SignedEnds) (e : Interval) → SignedOverlap g h e
      → least_scaled w e ≤ℚ in_units_ℚ g (greatest_product w h)
  unfolding in_units_ℚ greatest_product least_scaled scaleℚ
  product-above (pos k) h e o = scaleℚ-keeps {k = pos k} (pos-nonneg k) o.above
  product-above (negsuc k) h e o = scaleℚ-exchanges {k = negsuc k} (negsuc-nonpos k) o.below

  zero-units : in_units_ℚ g (pos 0) ≈ℚ wholeℚ (pos 0)
  unfolding in_units_ℚ wholeℚ
  zero-units = ≈ℚ-difference (difference (pos 0)) (difference (pos 0)) (omega arith)

module _ (g : Grid) (x : ℕ) (hs : List SignedEnds) (es : List Interval) where
  -- the sums of the first n
  sum_below : (n : ℕ) → ((i : ℕ) → i < n → SignedOverlap g (ends_at hs i) (interval_at es i))
      → in_units_ℚ g (least_sum (weight x) hs n) ≤ℚ exact_greatest_sum x es n
  unfolding least_sum exact_greatest_sum
  sum_below zero o = (zero-units g).below
  sum_below (suc n) o =
      ≤ℚ-trans (units-sum g (least_sum (weight x) hs n) (least_product (weight x n) (ends_at hs n))).below
      (+ℚ-mono (sum_below n (λ i l. o i (omega arith)))
      (product-below g (weight x n) (ends_at hs n) (interval_at es n) (o n (omega arith))))

  sum-above : (n : ℕ) → ((i : ℕ) → i < n → SignedOverlap g (ends_at hs i) (interval_at es i))
      → exact_least_sum x es n ≤ℚ in_units_ℚ g (greatest_sum (weight x) hs n)
  unfolding greatest_sum exact_least_sum
  sum-above zero o = (zero-units g).above
  sum-above (suc n) o =
      ≤ℚ-trans
      (+ℚ-mono (sum-above n (λ i l. o i (omega arith)))
      (product-above g (weight x n) (ends_at hs n) (interval_at es n) (o n (omega arith))))
      (units-sum g (greatest_sum (weight x) hs n) (greatest_product (weight x n) (ends_at hs n))).above

  -- G's ends overlap the order's interval of G
  pub closed_sum-overlap : ((i : ℕ) → i < fitted → SignedOverlap g (ends_at hs i) (interval_at es i))
      → SignedOverlap g (closed_sum x hs) (exact_closed_sum x es)
  unfolding weighted_mean exact_closed_sum outward
  closed_sum-overlap o =
      record {
        below = ≤ℚ-trans (units-floor g (least_sum (weight x) hs fitted) (lit< tt))
            (quotientℚ-mono (sum_below fitted o) weight_unit (lit< tt));
        above = ≤ℚ-trans (quotientℚ-mono (sum-above fitted o) weight_unit (lit< tt))
            (units-ceil g (greatest_sum (weight x) hs fitted) (lit< tt));
      }
