-- The price taken one factor further, as a loop takes it: the payment now is 1, and each factor adds one payment.
use Rattle.std.specs.Prelude.{◌≡◌, ℕ, suc, ◌≤◌, ◌<◌, length, take}
use Rattle.std.proofs.Math.Path.{ap, ap₂}
use Rattle.std.proofs.Common.{sym, ◌∙◌, zero-add, arith, take-take, length-take-le}
use mathlib.Core.List.{List}
use Rattle.number_exponential.specs.Grid.{Grid}
use Rattle.number_exponential.specs.declared.Ends.{Ends}
use Rattle.number_folds.specs.Folds.{one, with_factor, survival_from, survival_over, plus, sum_over}
use Rattle.number_folds.proofs.laws.Steps.{sum_same, one-with-factor}
use Rattle.number_annuity.specs.Annuity.{discount_over, payment_after, annuity_over}

module _ (g : Grid) (rate : ℕ) where
  -- the payment now is 1
  pub payment-now : 0 < g.unit → (ps : List Ends) → payment_after g rate ps 0 ≡ one g
  unfolding payment_after discount_over survival_over survival_from
  payment-now positive ps = one-with-factor g positive (one g)

  -- the price over no factor is the payment now
  pub annuity-none : 0 < g.unit → (ps : List Ends) → annuity_over g rate (take 0 ps) ≡ one g
  unfolding annuity_over sum_over plus
  annuity-none positive ps =
      ap (λ (e : Ends). plus (record { lower = 0; upper = 0 }) e) (payment-now positive (take 0 ps))
      ∙ ap₂ (λ (l u : ℕ). record { lower = l; upper = u }) (zero-add (one g).lower) (zero-add (one g).upper)

  -- the price over the first n factors, by the payments over them all
  beginnings : (ps : List Ends) (n : ℕ) → n ≤ length ps
      → annuity_over g rate (take n ps) ≡ sum_over (payment_after g rate ps) (suc n)
  unfolding annuity_over payment_after
  beginnings ps n h =
      ap (λ (m : ℕ). sum_over (payment_after g rate (take n ps)) (suc m)) (length-take-le n ps h)
      ∙ sum_same _ _ (suc n)
      (λ k l. ap (λ (qs : List Ends). with_factor g (discount_over g rate k) (survival_over g qs)) (take-take k n ps (omega arith)))

  -- the price over one factor more
  pub annuity-next : (ps : List Ends) (i : ℕ) → i < length ps
      → annuity_over g rate (take (suc i) ps) ≡ plus (annuity_over g rate (take i ps)) (payment_after g rate ps (suc i))
  unfolding sum_over
  annuity-next ps i l =
      beginnings ps (suc i) l
      ∙ ap (λ (e : Ends). plus e (payment_after g rate ps (suc i))) (sym (beginnings ps i (omega arith)))
