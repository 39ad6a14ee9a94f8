-- At rate 0 the price is 1 and the survivals over k + 1 years, one for each factor: exactly.
use Rattle.std.specs.Prelude.{List, ℕ, zero, suc, length, take}
use Rattle.std.proofs.Common.{arith}
use Rattle.number_fraction.specs.Ratio.{Ratio, whole/, quotient/, ◌*/◌}
use Rattle.number_fraction.proofs.laws.RatioTerms.{◌≈/◌}
use Rattle.number_fraction.proofs.laws.RatioLaws.{≈/-trans, */-cong, */-one, one-*/}
use Rattle.number_fraction.specs.Bracket.{Bracket}
use Rattle.number_folds.specs.Exact.{exactly, order_with_factor, order_survival_from, order_survival_over, order_survivals_over, order_plus, order_sum_over}
use Rattle.number_annuity.specs.Exact.{discount/, discount_power, order_payment_after, order_annuity_over}
use Rattle.number_annuity.proofs.laws.Same.{≈/-refl, Same, same-trans, same-plus, same_sum, same_first}

one-year-at-0 : discount/ 0 ≈/ whole/ 1
unfolding discount/ quotient/ whole/
one-year-at-0 = record { below = record { cross = omega arith }; above = record { cross = omega arith } }

power-at-0 : (k : ℕ) → discount_power 0 k ≈/ whole/ 1
unfolding discount_power
power-at-0 zero = ≈/-refl (whole/ 1)
power-at-0 (suc k) = ≈/-trans (*/-cong (power-at-0 k) one-year-at-0) (*/-one (whole/ 1))

-- so nothing is taken off
undiscounted : (k : ℕ) (x : Ratio) → discount_power 0 k */ x ≈/ x
undiscounted k x = ≈/-trans (*/-cong (power-at-0 k) (≈/-refl x)) (one-*/ x)

order-payment-at-0 : (ps : List Bracket) (k : ℕ) → Same (order_payment_after 0 ps k) (order_survival_over (take k ps))
unfolding order_payment_after order_with_factor exactly
order-payment-at-0 ps k =
    let s = order_survival_over (take k ps) in
    record { least = undiscounted k s.least; most = undiscounted k s.most }

order-payment-now : (ps : List Bracket) → Same (order_payment_after 0 ps 0) (exactly (whole/ 1))
unfolding order_survival_over order_survival_from
order-payment-now ps = order-payment-at-0 ps 0

pub annuity-at-0 : (ps : List Bracket)
    → Same (order_annuity_over 0 ps) (order_plus (exactly (whole/ 1)) (order_sum_over (order_survivals_over ps) (length ps)))
unfolding order_annuity_over
annuity-at-0 ps =
    same-trans (same_first (order_payment_after 0 ps) (length ps))
    (same-plus (order-payment-now ps) (same_sum _ _ (length ps) (λ k l. order-payment-at-0 ps (suc k))))
