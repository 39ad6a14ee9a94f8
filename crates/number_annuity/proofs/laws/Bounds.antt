-- How great a price can be: a discount is at most 1, and so is each payment.
use Rattle.std.specs.Prelude.{List, length}
use Prim.Native.Nat.{ℕ, zero, suc, ◌+◌, ◌*◌, ◌<◌}
use Rattle.std.proofs.Math.Nat.{le_refl}
use Rattle.std.proofs.Common.{arith}
use Rattle.number_exponential.specs.Grid.{Grid}
use Rattle.number_exponential.specs.declared.Ends.{Ends}
use Rattle.number_exponential.proofs.laws.OutwardLaws.{outward-most}
use Rattle.number_folds.specs.Folds.{one}
use Rattle.number_folds.specs.laws.Each.{Each, each_take}
use Rattle.number_folds.specs.code.Code.{AtMost}
use Rattle.number_folds.proofs.laws.Bounds.{sum-at-most, with-factor-at-most, survival-at-most}
use Rattle.number_annuity.specs.Annuity.{rate_unit, discounted, discount_over, payment_after, annuity_over}

-- what a rate is added to is positive
pub divisor-positive : (rate : ℕ) → 0 < rate_unit + rate
divisor-positive rate = omega arith

pub discounted-at-most : (rate : ℕ) {m : ℕ} {d : Ends} → AtMost m d → AtMost m (discounted rate d)
unfolding discounted
discounted-at-most rate {m} {d} a =
    let b = outward-most (d.lower * rate_unit) (d.upper * rate_unit) (divisor-positive rate) m (omega (arith, a.lower))
    (omega (arith, a.upper)) in
    record { lower = b.0; upper = b.1 }

module _ (g : Grid) (positive : 0 < g.unit) (rate : ℕ) where
  pub discount-at-most : (k : ℕ) → AtMost g.unit (discount_over g rate k)
  unfolding discount_over one
  discount-at-most zero = record { lower = le_refl g.unit; upper = le_refl g.unit }
  discount-at-most (suc k) = discounted-at-most rate (discount-at-most k)

  pub payment-at-most : {ps : List Ends} → Each (AtMost g.unit) ps → (k : ℕ)
      → AtMost g.unit (payment_after g rate ps k)
  unfolding payment_after
  payment-at-most h k =
      with-factor-at-most g positive (discount-at-most k) (survival-at-most g positive (each_take k h))

  -- 1 now, and at most 1 for each factor
  pub annuity-at-most : {ps : List Ends} → Each (AtMost g.unit) ps
      → AtMost (suc (length ps) * g.unit) (annuity_over g rate ps)
  unfolding annuity_over
  annuity-at-most {ps} h =
      sum-at-most g.unit (payment_after g rate ps) (suc (length ps)) (λ k l. payment-at-most h k)
