-- The brackets of a cell agree at any two orders that count: those of H, of the force, of p and of q.
use Rattle.std.specs.Prelude.{ℕ, ◌+◌, ◌≤◌, ◌<◌}
use Rattle.std.proofs.Math.Decide.{dec_lt}
use native.Mathlib.Omega.{arith}
use Rattle.std.proofs.Common.{lt-ltb, le-ltb}
use Rattle.number_fraction.specs.Ratio.{Ratio}
use Rattle.number_fraction.proofs.laws.RatioLaws.{≤/-refl, */-mono, complement-reverse}
use Rattle.number_fraction.proofs.laws.RatioTerms.{NotAbove}
use Rattle.number_fraction.specs.Fraction.{◌≤ℚ◌}
use Rattle.number_fraction.proofs.laws.FractionLaws.{≤ℚ-refl, +ℚ-mono, signed-≤ℚ}
use Rattle.number_taylor.specs.Order.{least_order}
use Rattle.number_taylor.proofs.laws.OrderLaws.{orders-agree}
use Rattle.number_exponential.specs.Units.{billionths}
use Rattle.set_params.specs.declared.Params.{Params}
use Rattle.model_log_force.specs.LogForce.{log_force}
use Rattle.model_log_force.specs.code.Within.{log_force_width, Negated}
use Rattle.model_logarithm.proofs.laws.Brackets.{log-agrees}
use Rattle.model_closure.specs.Weights.{fitted, first_fitted, first_closed}
use Rattle.model_logistic.proofs.laws.SignedUnits.{Meet}
use Rattle.model_logistic.proofs.laws.OrdersAgree.{logistic-agrees}
use Rattle.model_closure.specs.Exact.{interval_at, exact_closed_sum}
use Rattle.model_closure.proofs.laws.OrdersAgree.{closed_sum-agrees}
use Rattle.model_mortality.specs.Exact.{exact_m, order_fitted, order_fitted_list, order_old_force}
use Rattle.model_mortality.specs.Exact.{order_force, order_force_over, order_survival}
use Rattle.model_mortality.proofs.laws.OrderDeath.{order_death}
use Rattle.model_mortality.specs.Cell.{whole_year}
use Rattle.model_mortality.proofs.laws.Answered.{Answered}
use Rattle.model_mortality.proofs.laws.Needed.{young-needed, old-needed}
use Rattle.model_mortality.proofs.laws.Holds.{order-fitted-at}
use Rattle.model_mortality.proofs.laws.Narrowing.{half-one, young-half, young-agrees}

-- ---- H

fitted-agrees : (p : Params) (y n : ℕ) → Negated billionths (log_force billionths p y n) log_force_width → (i j : ℕ) → least_order ≤ j
    → (order_fitted p n i y).least ≤ℚ (order_fitted p n j y).most
unfolding order_fitted
fitted-agrees p y n r i j l =
    +ℚ-mono (≤ℚ-refl (exact_m p y n))
    (signed-≤ℚ.0 (log-agrees i j (young-agrees p y n r i j) (half-one (young-half p y n r j l))))

-- ---- the closure

old-agrees : (p : Params) (x n : ℕ) → ((m : ℕ) → m < fitted → Negated billionths (log_force billionths p (first_fitted + m) n) log_force_width)
    → (i j : ℕ) → least_order ≤ i → least_order ≤ j → NotAbove (order_old_force p x n i) (order_old_force p x n j)
unfolding order_old_force
old-agrees p x n r i j k l =
    record {
      reaches =
          logistic-agrees (exact_closed_sum x (order_fitted_list p n i)).least (exact_closed_sum x (order_fitted_list p n j)).most i j
          (closed_sum-agrees x (order_fitted_list p n i) (order_fitted_list p n j) meet);
    }
  where
    meet : (m : ℕ) → m < fitted → Meet (interval_at (order_fitted_list p n i) m) (interval_at (order_fitted_list p n j) m)
    meet m h =
        rw (order-fitted-at p n i m h, order-fitted-at p n j m h)
        (record {
          below = fitted-agrees p (first_fitted + m) n (r m h) i j l;
          above = fitted-agrees p (first_fitted + m) n (r m h) j i k;
        })

-- ---- the force at any age, p and q

module _ {p : Params} {x n : ℕ} (a : Answered p x n) (i j : ℕ) (k : least_order ≤ i) (l : least_order ≤ j) where
  force-agrees : NotAbove (order_force p x n i) (order_force p x n j)
  unfolding order_force
  force-agrees =
      elim (dec_lt x first_closed) [
        | yes h ↦ rw (lt-ltb x first_closed h) (record { reaches = young-agrees p x n (young-needed billionths a h) i j })
        | no h ↦
            let c : first_closed ≤ x = omega arith in
            rw (le-ltb x first_closed c) (old-agrees p x n (old-needed billionths a c) i j k l)
      ]

module _ {p : Params} {x n : ℕ} (a : Answered p x n) where
  pub survival-agrees : (part : Ratio) (i j : ℕ) → least_order ≤ i → least_order ≤ j
      → NotAbove (order_survival p x n part i) (order_survival p x n part j)
  unfolding order_survival order_force_over
  survival-agrees part i j k l =
      record { reaches = orders-agree i j (*/-mono (force-agrees a j i l k).reaches (≤/-refl part)) }

  pub q-agrees : (i j : ℕ) → least_order ≤ i → least_order ≤ j
      → NotAbove (order_death p x n i) (order_death p x n j)
  unfolding order_death
  q-agrees i j k l = record { reaches = complement-reverse (survival-agrees whole_year j i l k).reaches }
