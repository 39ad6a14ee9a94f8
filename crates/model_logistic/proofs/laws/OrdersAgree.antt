-- The orders of the force from G agree where G's ends do: by their signs both by e^−G, both by E = e^G, or one of each, on
-- either side of 1/2.
use Rattle.std.specs.Prelude.{ℕ, ◌<◌, ℤ, pos, negsuc}
use Rattle.std.proofs.Common.{mul-le-mul, arith}
use Rattle.number_fraction.specs.Ratio.{Ratio, ◌≤/◌, whole/}
use Rattle.number_fraction.specs.Fraction.{Fraction, ◌≤ℚ◌, absolute}
use Rattle.number_taylor.proofs.laws.OrderLaws.{orders-agree}
use Rattle.model_logistic.proofs.laws.SignedUnits.{over}
use Rattle.model_logistic.specs.Exact.{over_one, share, order_logistic_lower, order_logistic_upper}
use Rattle.model_logistic.proofs.laws.Sizes.{both-above, both_below, apart}
use Rattle.model_logistic.proofs.laws.LogisticHolds.{order-lower-one}

-- 1/(1 + E) falls with E, E/(1 + E) rises with E; for numbers of at most 1 the second is at most 1/2 and the first at least
over-falls : {e f : Ratio} → e ≤/ f → over_one f ≤/ over_one e
unfolding over_one
over-falls h = record { cross = omega (arith, h.cross) }

share-rises : {e f : Ratio} → e ≤/ f → share e ≤/ share f
unfolding share
share-rises h = record { cross = omega (arith, h.cross) }

share-below-over : {e f : Ratio} → e ≤/ whole/ 1 → f ≤/ whole/ 1 → share e ≤/ over_one f
unfolding share over_one whole/
share-below-over h k = record { cross = omega (arith, mul-le-mul h.cross k.cross) }

module _ (d e : ℕ) (p : 0 < d) (q : 0 < e) where
  cases : (a b : ℤ) (i j : ℕ) → over d p a ≤ℚ over e q b
      → order_logistic_lower (over d p a) i ≤/ order_logistic_upper (over e q b) j
  unfolding order_logistic_lower order_logistic_upper
  cases (pos a) (pos b) i j h = over-falls (orders-agree j i (both-above a b h))
  cases (pos a) (negsuc b) i j h = absurd (apart a b h)
  cases (negsuc a) (pos b) i j h =
      share-below-over (order-lower-one (absolute (over d p (negsuc a))) i) (order-lower-one (absolute (over e q (pos b))) j)
  cases (negsuc a) (negsuc b) i j h = share-rises (orders-agree i j (both_below a b h))

-- order i's lower end at G is at most order j's upper end at an H of at least G
pub logistic-agrees : (G H : Fraction) (i j : ℕ) → G ≤ℚ H → order_logistic_lower G i ≤/ order_logistic_upper H j
logistic-agrees G H i j h = cases G.den H.den G.positive H.positive G.num H.num i j h
