-- An order's bracket of e^−z over an interval of z: the upper end at z lies above the lower end at z + d by at most d
-- and what the bracket itself is wide, which is at most 1/M from an order on that depends on M and a bound of z + d
-- only.
use Rattle.std.specs.Prelude.{ℕ, ◌≤◌, ◌<◌}
use Rattle.std.proofs.Common.{arith}
use Rattle.number_fraction.specs.Ratio.{Ratio, ◌≤/◌, whole/, ◌+/◌, quotient/}
use Rattle.number_fraction.proofs.laws.RatioLaws.{≤/-refl, ≤/-trans, </→≤/, +/-mono, +/-comm, +/-assoc, */-mono, */-+/, */-one, one-*/}
use Rattle.number_taylor.specs.Order.{order_lower, order_upper}
use Rattle.number_taylor.proofs.laws.OrderLaws.{upper-antitone, upper-below-one, narrow_below}
use Rattle.number_taylor.proofs.laws.Sums.{sum-slope}
use Rattle.number_taylor.proofs.laws.SumLaws.{product-of-uppers}
use Rattle.number_taylor.proofs.laws.Narrowing.{narrow_order}

-- 1 ≤ 1/s(d) + d
pub one-slope : (d : Ratio) (j : ℕ) → whole/ 1 ≤/ order_upper d j +/ d
unfolding whole/ order_upper ◌+/◌
one-slope d j = record { cross = omega (arith, sum-slope d.num d.den j) }

-- the upper end falls by at most d from z to z + d
pub upper-slope : (z d : Ratio) (j : ℕ) → order_upper z j ≤/ order_upper (z +/ d) j +/ d
upper-slope z d j =
    let u = order_upper z j in
    let v = order_upper d j in
    ≤/-trans (*/-one u).above
    (≤/-trans (*/-mono (≤/-refl u) (one-slope d j))
    (≤/-trans (*/-+/ u v d).below
    (+/-mono (product-of-uppers z d j) (≤/-trans (*/-mono (upper-below-one z j) (≤/-refl d)) (one-*/ d).below))))

-- (x + e) + d is x + d + e
exchanged : (x d e : Ratio) → (x +/ e) +/ d ≤/ x +/ d +/ e
exchanged x d e =
    ≤/-trans (+/-assoc x e d).below (≤/-trans (+/-mono (≤/-refl x) (+/-comm e d).below) (+/-assoc x d e).above)

-- for every z' ≤ z + d with z' ≤ Z: the upper end at z is at most the lower end at z', d and 1/M
pub exp-narrow-below : (Z M : ℕ) (h : 0 < M) (z z' d : Ratio) (j : ℕ) → z' ≤/ z +/ d → z' ≤/ whole/ Z
    → narrow_order Z M ≤ j
    → order_upper z j ≤/ order_lower z' j +/ d +/ quotient/ (whole/ 1) M h
exp-narrow-below Z M h z z' d j l m k =
    ≤/-trans (upper-slope z d j)
    (≤/-trans (+/-mono (≤/-trans (upper-antitone j l) (</→≤/ (narrow_below Z M h z' j m k))) (≤/-refl d))
    (exchanged (order_lower z' j) d (quotient/ (whole/ 1) M h)))
