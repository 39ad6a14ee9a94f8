-- The price on a grid holds every order's: where each factor's ends overlap its bracket, the price's overlap its own.
use mathlib.Core.List.{List, Forall₂}
use Prim.Native.Nat.{ℕ, zero, suc, ◌+◌}
use Rattle.std.proofs.Common.{arith}
use Rattle.std.specs.Prelude.{length}
use Rattle.number_fraction.specs.Ratio.{Ratio, whole/, quotient/, ◌*/◌}
use Rattle.number_fraction.specs.Bracket.{Bracket}
use Rattle.number_fraction.proofs.laws.Places.{places-length, places-take}
use Rattle.number_exponential.specs.Grid.{Grid}
use Rattle.number_exponential.specs.declared.Ends.{Ends}
use Rattle.number_exponential.proofs.laws.OutwardLaws.{outward-holds}
use Rattle.number_folds.specs.Exact.{exactly}
use Rattle.number_folds.proofs.laws.Holds.{Over, one-over, with-factor-holds, sum-holds, survival-holds}
use Rattle.number_annuity.specs.Annuity.{rate_unit, discounted, discount_over, payment_after, annuity_over}
use Rattle.number_annuity.specs.Exact.{discount/, discount_power, order_payment_after, order_annuity_over}
use Rattle.number_annuity.proofs.laws.Bounds.{divisor-positive}

module _ (g : Grid) (rate : ℕ) where
  -- ---- one year of discount

  discounted-holds : {e : Ends} (x : Ratio) → Over g e (exactly x)
      → Over g (discounted rate e) (exactly (x */ discount/ rate))
  unfolding discounted exactly discount/ quotient/ whole/
  discounted-holds x h =
      outward-holds g (rate_unit + rate) (divisor-positive rate) rate_unit rate_unit (discount/ rate) (discount/ rate) h (omega arith)
      (omega arith)

  -- ---- the discount, a payment, the price

  pub discount-holds : (k : ℕ) → Over g (discount_over g rate k) (exactly (discount_power rate k))
  unfolding discount_over discount_power
  discount-holds zero = one-over g
  discount-holds (suc k) = discounted-holds (discount_power rate k) (discount-holds k)

  module _ {es : List Ends} {bs : List Bracket} (h : Forall₂ (Over g) es bs) where
    pub payment-holds : (k : ℕ) → Over g (payment_after g rate es k) (order_payment_after rate bs k)
    unfolding payment_after order_payment_after
    payment-holds k = with-factor-holds g (discount-holds k) (survival-holds g (places-take k h))

    pub annuity-holds : Over g (annuity_over g rate es) (order_annuity_over rate bs)
    unfolding annuity_over order_annuity_over
    annuity-holds =
        rw (← places-length h)
        (sum-holds g (payment_after g rate es) (order_payment_after rate bs) (suc (length es)) (λ k l. payment-holds k))
