-- G exactly: "an order's ends are taken from its brackets outward as on the grid, without rounding" (paper 01, "The exact
-- value").
use Rattle.std.specs.Prelude.{ℕ, zero, suc, cond, List, ℤ, pos, get_or}
use Rattle.std.proofs.Common.{lit<}
use Rattle.std.specs.Int.Signed.{non_neg}
use Rattle.number_fraction.specs.Fraction.{Fraction, wholeℚ, ◌+ℚ◌, scaleℚ, quotientℚ}
use Rattle.model_closure.specs.Weights.{fitted, weight_unit, weight}
use Rattle.model_logistic.specs.Units.{Interval}

-- an order's interval of H at the i-th fitted age, of eleven
abbrev pub interval_at : List Interval → ℕ → Interval
interval_at hs i = get_or hs i (record { least = wholeℚ (pos 0); most = wholeℚ (pos 0) })

-- w·H, its least and its greatest: a negative w exchanges the ends
unfoldable pub least_scaled : ℤ → Interval → Fraction
least_scaled w h = scaleℚ w (cond (non_neg w) h.least h.most)

unfoldable pub greatest_scaled : ℤ → Interval → Fraction
greatest_scaled w h = scaleℚ w (cond (non_neg w) h.most h.least)

unfoldable pub exact_least_sum : ℕ → List Interval → ℕ → Fraction
exact_least_sum x hs zero = wholeℚ (pos 0)
exact_least_sum x hs (suc n) = exact_least_sum x hs n +ℚ least_scaled (weight x n) (interval_at hs n)

unfoldable pub exact_greatest_sum : ℕ → List Interval → ℕ → Fraction
exact_greatest_sum x hs zero = wholeℚ (pos 0)
exact_greatest_sum x hs (suc n) = exact_greatest_sum x hs n +ℚ greatest_scaled (weight x n) (interval_at hs n)

-- G: the weighted sum of H over 110
unfoldable pub exact_closed_sum : ℕ → List Interval → Interval
exact_closed_sum x hs =
    record {
      least = quotientℚ (exact_least_sum x hs fitted) weight_unit (lit< tt);
      most = quotientℚ (exact_greatest_sum x hs fitted) weight_unit (lit< tt);
    }
