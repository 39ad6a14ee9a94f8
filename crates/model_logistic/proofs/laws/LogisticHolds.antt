-- The logistic on a grid holds every order of the exact one: where the ends of G overlap an order's interval of G,
-- those of the force overlap the order's. By the signs of the two ends: both by e^−G, both by E = e^G, or one of
-- each, on either side of 1/2.
use Rattle.std.specs.Prelude.{ℕ, suc, ◌+◌, ◌*◌, ◌≤◌, ◌<◌, ℤ, pos, negsuc}
use Rattle.std.proofs.Math.Nat.{mul-le-mul_left, mul-le-mul_right}
use Rattle.std.proofs.Common.{le_of_mul-le-mul_right, arith}
use Rattle.number_whole.specs.declared.SignedEnds.{SignedEnds}
use Rattle.number_whole.proofs.laws.DivisionLaws.{floorℕ-encloses, ceilℕ-encloses}
use Rattle.number_fraction.specs.Ratio.{Ratio, ◌≤/◌, whole/}
use Rattle.number_fraction.proofs.laws.RatioLaws.{≤/-trans}
use Rattle.number_fraction.specs.Fraction.{◌≤ℚ◌, absolute}
use Rattle.number_taylor.specs.Order.{order_lower}
use Rattle.number_taylor.proofs.laws.OrderLaws.{lower-antitone, upper-antitone, brackets-agree, upper-below-one}
use Rattle.number_exponential.specs.Grid.{Grid, in_units}
use Rattle.number_exponential.specs.Exponential.{exp_lower, exp_upper}
use Rattle.number_exponential.proofs.laws.Facts.{Sound}
use Rattle.number_exponential.proofs.laws.Overlap.{Overlap}
use Rattle.number_exponential.proofs.laws.Holds.{lower-holds, upper-holds}
use Rattle.number_exponential.proofs.laws.AtMostOne.{exp-lower-one}
use Rattle.model_logistic.specs.Positive.{sum-positive}
use Rattle.model_logistic.proofs.laws.Sizes.{both-above, both_below, apart}
use Rattle.model_logistic.specs.Logistic.{over_one_lower, over_one_upper, share_lower, share_upper, logistic_lower}
use Rattle.model_logistic.specs.Logistic.{logistic_upper, logistic}
use Rattle.model_logistic.specs.Units.{Interval}
use Rattle.model_logistic.proofs.laws.SignedUnits.{over, in_units_ℚ, SignedOverlap}
use Rattle.model_logistic.specs.Exact.{over_one, share, order_logistic_lower, order_logistic_upper}

-- ---- the two quotients: 1/(1 + E) falls with E, E/(1 + E) rises with E

-- a quotient q of X and P, rounded down, against Y/R, and one rounded up
pub quotient-below : (q P X R Y : ℕ) → 0 < P → q * P ≤ X → X * R ≤ Y * P → q * R ≤ Y
quotient-below q P X R Y p h k = le_of_mul-le-mul_right {k = P} (omega (arith, mul-le-mul_right R h)) p

quotient-above : (q P X R Y : ℕ) → 0 < P → X ≤ q * P → Y * P ≤ X * R → Y ≤ q * R
quotient-above q P X R Y p h k = le_of_mul-le-mul_right {k = P} (omega (arith, mul-le-mul_right R h)) p

pub unit-sum-positive : (g : Grid) → Sound g → (E : ℕ) → 0 < g.unit + E
unit-sum-positive g s E = sum-positive g.unit E g.positive

module _ (g : Grid) (s : Sound g) (E : ℕ) (e : Ratio) where
  U : ℕ
  U = g.unit

  P : 0 < g.unit + E
  P = unit-sum-positive g s E

  over-lower : e ≤/ in_units g E → in_units g (over_one_lower g E) ≤/ over_one e
  unfolding in_units over_one_lower over_one U
  over-lower h =
      record {
        cross = quotient-below _ (U + E) (U * U) _ (e.den * U) P (floorℕ-encloses (U * U) P).0
            (omega (arith, mul-le-mul_left U h.cross));
      }

  over-upper : in_units g E ≤/ e → over_one e ≤/ in_units g (over_one_upper g E)
  unfolding in_units over_one_upper over_one U
  over-upper h =
      record {
        cross = quotient-above _ (U + E) (U * U) _ (e.den * U) P (ceilℕ-encloses (U * U) P).0
            (omega (arith, mul-le-mul_left U h.cross));
      }

  share-lower : in_units g E ≤/ e → in_units g (share_lower g E) ≤/ share e
  unfolding in_units share_lower share U
  share-lower h =
      record {
        cross = quotient-below _ (U + E) (E * U) _ (e.num * U) P (floorℕ-encloses (E * U) P).0
            (omega (arith, mul-le-mul_left U h.cross));
      }

  share-upper : e ≤/ in_units g E → share e ≤/ in_units g (share_upper g E)
  unfolding in_units share_upper share U
  share-upper h =
      record {
        cross = quotient-above _ (U + E) (E * U) _ (e.num * U) P (ceilℕ-encloses (E * U) P).0
            (omega (arith, mul-le-mul_left U h.cross));
      }

  -- E/(1 + E) ≤ 1/2 ≤ 1/(1 + e) for E and e at most 1, and the other way round
  half-lower : E ≤ g.unit → e ≤/ whole/ 1 → in_units g (share_lower g E) ≤/ over_one e
  unfolding in_units share_lower over_one whole/ U
  half-lower k h =
      record {
        cross = quotient-below _ (U + E) (E * U) _ (e.den * U) P (floorℕ-encloses (E * U) P).0
            (omega (arith, mul-le-mul_right (e.den * U) k, mul-le-mul_left (E * U) h.cross));
      }

  half-upper : E ≤ g.unit → e ≤/ whole/ 1 → share e ≤/ in_units g (over_one_upper g E)
  unfolding in_units over_one_upper share whole/ U
  half-upper k h =
      record {
        cross = quotient-above _ (U + E) (U * U) _ (e.num * U) P (ceilℕ-encloses (U * U) P).0
            (omega (arith, mul-le-mul_right (e.num * U) k, mul-le-mul_left (U * U) h.cross));
      }

-- ---- the ends

-- the order's lower end is at most 1, and so is the grid's
pub order-lower-one : (z : Ratio) (j : ℕ) → order_lower z j ≤/ whole/ 1
order-lower-one z j = ≤/-trans (brackets-agree z j j) (upper-below-one z j)

module _ (g : Grid) (s : Sound g) (d : ℕ) (p : 0 < d) where
  lower-cases : (n a : ℤ) (j : ℕ) → in_units_ℚ g n ≤ℚ over d p a
      → in_units g (logistic_lower g n) ≤/ order_logistic_upper (over d p a) j
  unfolding logistic_lower order_logistic_upper in_units_ℚ in_units absolute
  lower-cases (pos n) (pos m) j h =
      over-lower g s (exp_upper g n) _ (≤/-trans (lower-antitone j (both-above n m h)) (upper-holds g s n j))
  lower-cases (pos n) (negsuc m) j h = absurd (apart n m h)
  lower-cases (negsuc n) (pos m) j h =
      half-lower g s (exp_lower g (suc n)) _ (exp-lower-one g s (suc n))
      (order-lower-one (absolute (over d p (pos m))) j)
  lower-cases (negsuc n) (negsuc m) j h =
      share-lower g s (exp_lower g (suc n)) _ (≤/-trans (lower-holds g s (suc n) j)
      (upper-antitone j (both_below n m h)))

  upper-cases : (n a : ℤ) (j : ℕ) → over d p a ≤ℚ in_units_ℚ g n
      → order_logistic_lower (over d p a) j ≤/ in_units g (logistic_upper g n)
  unfolding logistic_upper order_logistic_lower in_units_ℚ in_units absolute
  upper-cases (pos n) (pos m) j h =
      over-upper g s (exp_lower g n) _ (≤/-trans (lower-holds g s n j) (upper-antitone j (both-above m n h)))
  upper-cases (negsuc n) (pos m) j h = absurd (apart m n h)
  upper-cases (pos n) (negsuc m) j h =
      half-upper g s (exp_lower g n) _ (exp-lower-one g s n) (order-lower-one (absolute (over d p (negsuc m))) j)
  upper-cases (negsuc n) (negsuc m) j h =
      share-upper g s (exp_upper g (suc n)) _ (≤/-trans (lower-antitone j (both_below m n h))
      (upper-holds g s (suc n) j))

-- the force's ends overlap every order's interval of the force
pub logistic-overlap : (g : Grid) (s : Sound g) (G : SignedEnds) (I : Interval) (j : ℕ) → SignedOverlap g G I
    → Overlap g (logistic g G) (order_logistic_lower I.least j) (order_logistic_upper I.most j)
unfolding logistic
logistic-overlap g s G I j o =
    record {
      below = lower-cases g s I.most.den I.most.positive G.lower I.most.num j o.below;
      above = upper-cases g s I.least.den I.least.positive G.upper I.least.num j o.above;
    }
