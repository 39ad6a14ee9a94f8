-- The orders of the price agree where those of the factors do, place by place.
use mathlib.Core.List.{List, Forall₂}
use Rattle.std.specs.Prelude.{ℕ}
use Rattle.number_fraction.specs.Bracket.{Bracket}
use Rattle.number_fraction.proofs.laws.RatioTerms.{NotAbove}
use Rattle.number_fraction.proofs.laws.Places.{places-length, places-take}
use Rattle.number_folds.proofs.laws.OrdersAgree.{exactly-agrees, with-factor-agrees, sum_agrees, survival-agrees}
use Rattle.number_annuity.specs.Exact.{order_payment_after, order_annuity_over}

module _ (rate : ℕ) {ps qs : List Bracket} (h : Forall₂ NotAbove ps qs) where
  payment-agrees : (k : ℕ) → NotAbove (order_payment_after rate ps k) (order_payment_after rate qs k)
  unfolding order_payment_after
  payment-agrees k = with-factor-agrees (exactly-agrees _) (survival-agrees (places-take k h))

  pub annuity-agrees : NotAbove (order_annuity_over rate ps) (order_annuity_over rate qs)
  unfolding order_annuity_over
  annuity-agrees = rw (← places-length h) (sum_agrees _ _ _ (λ k l. payment-agrees _))
