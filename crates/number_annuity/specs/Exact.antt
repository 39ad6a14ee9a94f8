-- The same price over an order's brackets of the factors, with nothing rounded: powers of 10^6/(10^6 + rate) as fractions,
-- times the exact survivals.
use Rattle.std.specs.Prelude.{List, ℕ, zero, suc, ◌+◌, length, take}
use Rattle.std.proofs.Common.{arith}
use Rattle.number_fraction.specs.Ratio.{Ratio, whole/, quotient/, ◌*/◌}
use Rattle.number_fraction.specs.Bracket.{Bracket}
use Rattle.number_folds.specs.Exact.{exactly, order_with_factor, order_survival_over, order_sum_over}
use Rattle.number_annuity.specs.Annuity.{rate_unit}

-- 10^6/(10^6 + rate), and its k-th power
unfoldable pub discount/ : ℕ → Ratio
discount/ rate = quotient/ (whole/ rate_unit) (rate_unit + rate) (omega arith)

unfoldable pub discount_power : ℕ → ℕ → Ratio
discount_power rate zero = whole/ 1
discount_power rate (suc k) = discount_power rate k */ discount/ rate

-- the payment after k years
unfoldable pub order_payment_after : ℕ → List Bracket → ℕ → Bracket
order_payment_after rate ps k = order_with_factor (exactly (discount_power rate k)) (order_survival_over (take k ps))

-- the payment now and the one after each factor
unfoldable pub order_annuity_over : ℕ → List Bracket → Bracket
order_annuity_over rate ps = order_sum_over (order_payment_after rate ps) (suc (length ps))
