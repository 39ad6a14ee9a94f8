-- The orders of G agree where those of the eleven H do, place by place and both ways round, since a negative weight exchanges
-- the ends.
use Rattle.std.specs.Prelude.{List, ℤ, pos, negsuc}
use Prim.Native.Nat.{ℕ, zero, suc, ◌<◌}
use Rattle.std.proofs.Common.{arith, lit<}
use Rattle.number_whole.proofs.laws.Order.{pos-nonneg}
use Rattle.number_fraction.specs.Fraction.{◌≤ℚ◌, wholeℚ}
use Rattle.number_fraction.proofs.laws.FractionLaws.{≤ℚ-refl, +ℚ-mono, scaleℚ-keeps, scaleℚ-exchanges, quotientℚ-mono}
use Rattle.model_closure.specs.Weights.{fitted, weight_unit, weight}
use Rattle.model_logistic.specs.Units.{Interval}
use Rattle.model_logistic.proofs.laws.SignedUnits.{Meet}
use Rattle.model_closure.proofs.laws.WeightedSum.{negsuc-nonpos}
use Rattle.model_closure.specs.Exact.{interval_at, least_scaled, greatest_scaled, exact_least_sum, exact_greatest_sum, exact_closed_sum}

product-agrees : (w : ℤ) (I J : Interval) → Meet I J → least_scaled w I ≤ℚ greatest_scaled w J
unfolding least_scaled greatest_scaled
product-agrees (pos n) I J m = scaleℚ-keeps {k = pos n} (pos-nonneg n) m.below
product-agrees (negsuc n) I J m = scaleℚ-exchanges {k = negsuc n} (negsuc-nonpos n) m.above

module _ (x : ℕ) (es fs : List Interval) where
  sum_agrees : (n : ℕ) → ((k : ℕ) → k < n → Meet (interval_at es k) (interval_at fs k))
      → exact_least_sum x es n ≤ℚ exact_greatest_sum x fs n
  unfolding exact_least_sum exact_greatest_sum
  sum_agrees zero m = ≤ℚ-refl (wholeℚ (pos 0))
  sum_agrees (suc n) m =
      +ℚ-mono (sum_agrees n (λ k l. m k (omega arith)))
      (product-agrees (weight x n) (interval_at es n) (interval_at fs n) (m n (omega arith)))

  pub closed_sum-agrees : ((k : ℕ) → k < fitted → Meet (interval_at es k) (interval_at fs k))
      → (exact_closed_sum x es).least ≤ℚ (exact_closed_sum x fs).most
  unfolding exact_closed_sum
  closed_sum-agrees m = quotientℚ-mono (sum_agrees fitted m) weight_unit (lit< tt)
