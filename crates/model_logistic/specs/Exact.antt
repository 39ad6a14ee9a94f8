-- The force from G exactly: "an order's ends are taken from its brackets outward as on the grid, without rounding" (paper 01,
-- "The exact value").
use Rattle.std.specs.Prelude.{ℕ, ◌+◌, cond}
use Rattle.std.specs.Int.Signed.{non_neg}
use Rattle.number_fraction.specs.Ratio.{Ratio}
use Rattle.number_fraction.specs.Fraction.{Fraction, absolute}
use Rattle.number_taylor.specs.Order.{order_lower, order_upper}
use Rattle.model_logistic.specs.Positive.{sum-positive}

-- 1/(1 + E) and E/(1 + E)
unfoldable pub over_one : Ratio → Ratio
over_one e = record { num = e.den; den = e.den + e.num; positive = sum-positive e.den e.num e.positive }

unfoldable pub share : Ratio → Ratio
share e = record { num = e.num; den = e.den + e.num; positive = sum-positive e.den e.num e.positive }

-- the force at order j from an end of G
unfoldable pub order_logistic_lower : Fraction → ℕ → Ratio
order_logistic_lower G j = cond (non_neg G.num) (over_one (order_upper (absolute G) j)) (share (order_lower (absolute G) j))

unfoldable pub order_logistic_upper : Fraction → ℕ → Ratio
order_logistic_upper G j = cond (non_neg G.num) (over_one (order_lower (absolute G) j)) (share (order_upper (absolute G) j))
