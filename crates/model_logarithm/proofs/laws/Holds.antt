-- The logarithm on a grid, read as fractions, holds every order of the exact one: its lower end at u is at most an order's
-- sum at a force that is no less than u, from the grid's number of terms on, and at u ≤ 1/2 its upper end is at least every
-- order's sum at a force that is no more than u.
use Prim.Native.Nat.{ℕ, zero, suc, ◌*◌, ◌/◌, ◌^◌, ◌≤◌}
use Rattle.std.proofs.Common.{mul-le-mul_left, mul-le-mul_right, le_refl}
use native.Mathlib.Omega.{arith}
use Rattle.number_whole.specs.Division.{ceil_div_ℕ}
use Rattle.number_whole.proofs.laws.DivisionLaws.{floorℕ-encloses, ceilℕ-encloses}
use Rattle.number_fraction.specs.Ratio.{Ratio, ◌≤/◌, ◌*/◌, whole/}
use Rattle.number_fraction.proofs.laws.RatioLaws.{≤/-trans, ≤/-+/, +/-mono}
use Rattle.number_exponential.specs.Grid.{Grid, in_units}
use Rattle.number_exponential.proofs.laws.Overlap.{Overlap}
use Rattle.number_exponential.specs.declared.Ends.{Ends}
use Rattle.number_exponential.proofs.laws.OutwardLaws.{units-over, units-within}
use Rattle.model_logarithm.specs.Logarithm.{power_lower, power_upper, log_terms_lower, log_terms_upper, log_rest, log_lower, log_upper}
use Rattle.model_logarithm.specs.Exact.{log_term, log_sum, order_log_lower, order_log_upper}
use Rattle.model_logarithm.proofs.laws.Half.{half, log_reach}
use Rattle.model_logarithm.proofs.laws.Powers.{power-lower, power-upper}
use Rattle.model_logarithm.proofs.laws.Sums.{log-sum-monotone, log-sum-rises, log-sum-below-reach}

-- a quotient's claim from the power's
term-below : (U q x n T P : ℕ) → q * n ≤ x → x * T ≤ U * P → q * (T * n) ≤ P * U
term-below U q x n T P h k = omega (arith, mul-le-mul_right T h)

-- m times the power's quotient
term-above : (U q x m n T P : ℕ) → m * x ≤ q * n → U * P ≤ x * T → m * P * U ≤ q * (T * n)
term-above U q x m n T P h k = omega (arith, mul-le-mul_right T h, mul-le-mul_left m k)

module _ (g : Grid) where
  units-zero : whole/ 0 ≤/ in_units g 0
  unfolding in_units whole/
  units-zero = omega arith

  zero-units : in_units g 0 ≤/ whole/ 0
  unfolding in_units whole/
  zero-units = omega arith

  -- each quotient is on its side of u^k/k
  quotient-below : (u n : ℕ) → in_units g (power_lower g u (suc n) / suc n) ≤/ log_term (in_units g u) n
  unfolding in_units log_term
  quotient-below u n =
      record {
        cross = term-below g.unit _ (power_lower g u (suc n)) (suc n) (g.unit ^ suc n) (u ^ suc n)
            (floorℕ-encloses _ (omega arith)).0 (power-lower g g.positive u (suc n));
      }

  -- m·u^k/k is at most a number q of units that is at least m times the upper power over k
  multiple-above : (u n m q : ℕ) → m * power_upper g u (suc n) ≤ q * suc n
      → m * u ^ suc n * g.unit ≤ q * (g.unit ^ suc n * suc n)
  multiple-above u n m q h =
      term-above g.unit q (power_upper g u (suc n)) m (suc n) _ (u ^ suc n) h (power-upper g g.positive u (suc n))

  quotient-above : (u n : ℕ) → log_term (in_units g u) n ≤/ in_units g (ceil_div_ℕ (power_upper g u (suc n)) (suc n))
  unfolding in_units log_term
  quotient-above u n =
      let e = ceilℕ-encloses (power_upper g u (suc n)) {m = suc n} (omega arith) in
      record { cross = omega (arith, multiple-above u n 1 (ceil_div_ℕ (power_upper g u (suc n)) (suc n)) (omega arith)) }

  rest-above : (u : ℕ) → whole/ 2 */ log_term (in_units g u) g.log_terms ≤/ in_units g (log_rest g u)
  unfolding in_units log_term log_rest whole/ ◌*/◌
  rest-above u =
      let e = ceilℕ-encloses (2 * power_upper g u (suc g.log_terms)) {m = suc g.log_terms} (omega arith) in
      record { cross = omega (arith, multiple-above u g.log_terms 2 _ e.0) }

  -- and so are the sums
  pub terms-below : (u n : ℕ) → in_units g (log_terms_lower g u n) ≤/ log_sum (in_units g u) n
  unfolding log_terms_lower log_sum
  terms-below u zero = zero-units
  terms-below u (suc n) = ≤/-trans (units-within g _ _ (le_refl _)) (+/-mono (terms-below u n) (quotient-below u n))

  pub terms-above : (u n : ℕ) → log_sum (in_units g u) n ≤/ in_units g (log_terms_upper g u n)
  unfolding log_terms_upper log_sum
  terms-above u zero = units-zero
  terms-above u (suc n) = ≤/-trans (+/-mono (terms-above u n) (quotient-above u n)) (units-over g _ _ (le_refl _))

  pub log-reach : (u : ℕ) → log_reach (in_units g u) g.log_terms ≤/ in_units g (log_upper g u)
  unfolding log_reach log_upper
  log-reach u = ≤/-trans (+/-mono (terms-above u g.log_terms) (rest-above u)) (units-over g _ _ (le_refl _))

  pub units-half : (u : ℕ) → 2 * u ≤ g.unit → in_units g u ≤/ half
  unfolding in_units half
  units-half u h = omega arith

  -- the lower end at u is at most every order's sum, so every order's upper end, at a force of at least u
  pub log-lower-sum : {v : Ratio} (u j : ℕ) → in_units g u ≤/ v → g.log_terms ≤ j
      → in_units g (log_lower g u) ≤/ log_sum v j
  unfolding log_lower
  log-lower-sum u j h l =
      ≤/-trans (terms-below u g.log_terms)
      (≤/-trans (log-sum-monotone g.log_terms h) (log-sum-rises _ g.log_terms j l))

  pub log-lower-holds : {v : Ratio} (u j : ℕ) → in_units g u ≤/ v → g.log_terms ≤ j
      → in_units g (log_lower g u) ≤/ order_log_upper v j
  unfolding order_log_upper
  log-lower-holds u j h l = ≤/-trans (log-lower-sum u j h l) (≤/-+/ _ _)

  -- at u ≤ 1/2 the upper end at u is at least every order's lower end at a force of at most u
  pub log-upper-holds : {v : Ratio} (u j : ℕ) → 2 * u ≤ g.unit → v ≤/ in_units g u
      → order_log_lower v j ≤/ in_units g (log_upper g u)
  unfolding order_log_lower
  log-upper-holds u j l h =
      ≤/-trans (log-sum-monotone j h) (≤/-trans (log-sum-below-reach _ g.log_terms j (units-half u l)) (log-reach u))

  -- where the two ends of a force overlap an order's, those of its logarithm overlap the order's
  pub log-overlap : (ends : Ends) (least most : Ratio) (j : ℕ) → Overlap g ends least most → 2 * ends.upper ≤ g.unit
      → g.log_terms ≤ j
      → Overlap g (record { lower = log_lower g ends.lower; upper = log_upper g ends.upper })
      (order_log_lower least j) (order_log_upper most j)
  log-overlap ends least most j o l k =
      record { below = log-lower-holds ends.lower j o.below k; above = log-upper-holds ends.upper j l o.above }
