-- The price of an annuity on a grid (paper 02, E1), as a fold over the factors of a path: "1 paid now and on each 1 January
-- while alive". Of whom and in which year the factors are is not known here.
use Rattle.std.specs.Prelude.{List, ℕ, zero, suc, ◌+◌, ◌*◌, length, take}
use Rattle.number_exponential.specs.Grid.{Grid}
use Rattle.number_exponential.specs.declared.Ends.{Ends}
use Rattle.number_exponential.specs.Outward.{outward_over}
use Rattle.number_folds.specs.Folds.{one, with_factor, survival_over, sum_over}

-- a rate is "in units of 10^-6, from 0 to 200,000"
abbrev pub rate_unit : ℕ
rate_unit = 1000000

abbrev pub most_rate : ℕ
most_rate = 200000

-- "multiplied each year by 10^6/(10^6 + rate), outward"
unfoldable pub discounted : ℕ → Ends → Ends
discounted rate d = outward_over (d.lower * rate_unit) (d.upper * rate_unit) (rate_unit + rate)

-- "Discount starts at 10^9": the discount over k years
unfoldable pub discount_over : Grid → ℕ → ℕ → Ends
discount_over g rate zero = one g
discount_over g rate (suc k) = discounted rate (discount_over g rate k)

-- "each payment is discount times survival over 10^9, outward": the payment after k years
unfoldable pub payment_after : Grid → ℕ → List Ends → ℕ → Ends
payment_after g rate ps k = with_factor g (discount_over g rate k) (survival_over g (take k ps))

-- the price: the payment now and the one after each factor
unfoldable pub annuity_over : Grid → ℕ → List Ends → Ends
annuity_over g rate ps = sum_over (payment_after g rate ps) (suc (length ps))
