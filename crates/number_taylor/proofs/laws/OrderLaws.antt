-- The brackets of e^−z, from 1/(s + r) to 1/s, order by order: every lower end is at most every upper end, the ends
-- close in as the order grows, both fall as z grows, and the bracket becomes as narrow as one likes.
use Rattle.std.specs.Prelude.{ℕ, ◌+◌, ◌*◌, ◌≤◌, ◌<◌}
use Rattle.std.proofs.Common.{le-mul_of_pos_right, arith}
use Rattle.number_fraction.specs.Ratio.{Ratio, ◌≤/◌, ◌</◌, ◌+/◌, whole/, quotient/}
use Rattle.number_fraction.proofs.laws.RatioLaws.{≤/-trans}
use Rattle.number_taylor.specs.Positive.{sum-at-least-one}
use Rattle.number_taylor.specs.Order.{order_lower, order_upper}
use Rattle.number_taylor.proofs.laws.Sums.{sum-grows, sum-monotone}
use Rattle.number_taylor.proofs.laws.Stretched.{sum-below-stretched, stretched-falls, stretched-monotone}
use Rattle.number_taylor.proofs.laws.Narrowing.{narrow_order, narrowing}

-- every lower end is at most every upper end
pub brackets-agree : (z : Ratio) (i j : ℕ) → order_lower z i ≤/ order_upper z j
unfolding order_lower order_upper
brackets-agree z i j = record { cross = omega (arith, sum-below-stretched z.num z.den i j z.positive) }

-- the lower end rises with the order
pub lower-rises : (z : Ratio) (i j : ℕ) → i ≤ j → order_lower z i ≤/ order_lower z j
unfolding order_lower
lower-rises z i j h = record { cross = omega (arith, stretched-falls z.num z.den i j z.positive h) }

-- the upper end falls with the order
pub upper-falls : (z : Ratio) (i j : ℕ) → i ≤ j → order_upper z j ≤/ order_upper z i
unfolding order_upper
upper-falls z i j h = record { cross = omega (arith, sum-grows z.num z.den i j z.positive h) }

-- both ends fall with z
pub lower-antitone : {z z' : Ratio} (j : ℕ) → z ≤/ z' → order_lower z' j ≤/ order_lower z j
unfolding order_lower
lower-antitone {z} {z'} j h = record {
  cross =
      omega (arith, stretched-monotone z.num z.den z'.num z'.den j z.positive z'.positive h.cross);
}

pub upper-antitone : {z z' : Ratio} (j : ℕ) → z ≤/ z' → order_upper z' j ≤/ order_upper z j
unfolding order_upper
upper-antitone {z} {z'} j h =
    record { cross = omega (arith, sum-monotone z.num z.den z'.num z'.den j h.cross) }

-- so every lower end is at most every upper end at a z that is no greater
pub orders-agree : {z z' : Ratio} (i j : ℕ) → z ≤/ z' → order_lower z' i ≤/ order_upper z j
orders-agree {z} i j h = ≤/-trans (lower-antitone i h) (brackets-agree z i j)

pub upper-below-one : (z : Ratio) (j : ℕ) → order_upper z j ≤/ whole/ 1
unfolding order_upper whole/
upper-below-one z j = record { cross = omega (arith, sum-at-least-one z.num z.den j) }

-- for every z ≤ Z the bracket is narrower than 1/M from the order narrow_order Z M on
narrow-cross : (q k a b M : ℕ) → a * (b * M) < (q * M + b) * k → a * (b * (1 * M)) < (q * (1 * M) + 1 * b) * k
narrow-cross q k a b M h = omega arith

pub narrow_below : (Z M : ℕ) (h : 0 < M) (z : Ratio) (j : ℕ) → z ≤/ whole/ Z → narrow_order Z M ≤ j →
    order_upper z j </ order_lower z j +/ quotient/ (whole/ 1) M h
unfolding order_upper order_lower ◌+/◌ quotient/ whole/
narrow_below Z M h z j l k = record {
  cross =
      narrow-cross (order_lower z j).num (order_upper z j).den (order_upper z j).num (order_lower z j).den M
      (narrowing Z M j z.num z.den k z.positive (omega (arith, l.cross)));
}

-- for each z there is an order from which the bracket is narrower than 1/M
pub narrow : (z : Ratio) (M : ℕ) (h : 0 < M) (j : ℕ) → narrow_order z.num M ≤ j →
    order_upper z j </ order_lower z j +/ quotient/ (whole/ 1) M h
unfolding whole/
narrow z M h j k = narrow_below z.num M h z j
    (record { cross = omega (arith, le-mul_of_pos_right z.num z.positive) }) k
