-- The orders of the price narrow with those of the factors: where each of n factors' brackets is at most e wide, each
-- payment's is at most n·e, and the price's at most n·(n + 1)·e.
use Rattle.std.specs.Prelude.{List, ℕ, zero, suc, ◌*◌}
use Rattle.std.proofs.Common.{mul_comm, arith}
use Rattle.std.proofs.Math.ListN.{length}
use Rattle.number_fraction.specs.Ratio.{Ratio, ◌≤/◌, whole/, quotient/, ◌+/◌}
use Rattle.number_fraction.proofs.laws.RatioLaws.{≤/-refl, ≤/-trans, ≤/-+/, +/-mono, */-mono, */-one}
use Rattle.number_fraction.proofs.laws.Multiples.{times, times-times}
use Rattle.number_fraction.specs.Bracket.{Bracket}
use Rattle.number_folds.specs.Exact.{exactly, order_sum_over}
use Rattle.number_folds.specs.laws.Each.{Each}
use Rattle.number_folds.proofs.laws.Narrowing.{OrderChance, wider, with-factor-narrow, sum-narrow, beginning-narrow}
use Rattle.number_annuity.specs.Exact.{discount/, discount_power, order_payment_after, order_annuity_over}

-- ---- the discount is at most 1, and exact

one-year : (rate : ℕ) → discount/ rate ≤/ whole/ 1
unfolding discount/ quotient/ whole/
one-year rate = record { cross = omega arith }

pub power-at-most : (rate k : ℕ) → discount_power rate k ≤/ whole/ 1
unfolding discount_power
power-at-most rate zero = ≤/-refl (whole/ 1)
power-at-most rate (suc k) = ≤/-trans (*/-mono (power-at-most rate k) (one-year rate)) (*/-one (whole/ 1)).below

power-chance : (rate k : ℕ) → OrderChance (whole/ 0) (exactly (discount_power rate k))
unfolding exactly
power-chance rate k =
    record {
      least = power-at-most rate k;
      most = power-at-most rate k;
      width = ≤/-+/ (discount_power rate k) (whole/ 0);
    }

nothing-more : (x : Ratio) → whole/ 0 +/ x ≤/ x
unfolding whole/ ◌+/◌
nothing-more x = record { cross = omega arith }

-- ---- a payment, and the price

module _ (rate : ℕ) (e : Ratio) {ps : List Bracket} (h : Each (OrderChance e) ps) where
  payment-narrow : (k : ℕ) → OrderChance (times (length ps) e) (order_payment_after rate ps k)
  unfolding order_payment_after
  payment-narrow k =
      wider (nothing-more (times (length ps) e)) (with-factor-narrow (power-chance rate k) (beginning-narrow e k h))

  pub annuity-narrow : (order_annuity_over rate ps).most ≤/ (order_annuity_over rate ps).least +/ times (length ps * suc (length ps)) e
  unfolding order_annuity_over times
  annuity-narrow =
      let n = length ps in
      let s = order_sum_over (order_payment_after rate ps) (suc n) in
      rw (mul_comm n (suc n))
      (≤/-trans (sum-narrow (order_payment_after rate ps) (times n e) (suc n) (λ k l. (payment-narrow k).width))
      (+/-mono (≤/-refl s.least) (times-times (suc n) n e)))
