-- The sum s as a fraction: s_j(x + y) ≤ s_j(x)·s_j(y), and s_i(x)·s_j(y) ≤ s_(i+j)(x + y), for any fractions x and y.
use Rattle.std.specs.Prelude.{ℕ, ◌+◌, ◌*◌, ◌≤◌, ◌<◌}
use Rattle.std.proofs.Common.{mul-le-mul, mul-le-mul_right, mul-pos, le_of_mul-le-mul_right, arith}
use Rattle.number_fraction.specs.Ratio.{Ratio, ◌≤/◌, ◌+/◌, ◌*/◌}
use Rattle.number_taylor.specs.Taylor.{taylor_num, taylor_den}
use Rattle.number_taylor.specs.Positive.{taylor_den-positive}
use Rattle.number_taylor.specs.Order.{order_upper}
use Rattle.number_taylor.proofs.laws.Terms.{exp_sum}
use Rattle.number_taylor.proofs.laws.Sums.{sum-monotone}
use Rattle.number_taylor.proofs.laws.Products.{sum-of-sum}

-- m/d ≤ (n/d)·(n'/d), n/d ≤ a/b and n'/d ≤ a'/b' give m/d ≤ (a/b)·(a'/b')
below-algebra : (m d n n' a b a' b' : ℕ) → 0 < d → m * d ≤ n * n' → n * b ≤ a * d → n' * b' ≤ a' * d →
    m * (b * b') ≤ a * a' * d
below-algebra m d n n' a b a' b' h l x y =
    le_of_mul-le-mul_right {k = d} (omega (arith, mul-le-mul_right (b * b') l, mul-le-mul x y)) h

pub exp_sum-of-sum : (x y : Ratio) (j : ℕ) → exp_sum (x +/ y) j ≤/ exp_sum x j */ exp_sum y j
unfolding exp_sum ◌+/◌ ◌*/◌
exp_sum-of-sum x y j =
    let a : ℕ = x.num in
    let b : ℕ = x.den in
    let c : ℕ = y.num in
    let d : ℕ = y.den in
    let q : ℕ = b * d in
    let h : 0 < q = mul-pos x.positive y.positive in
    record {
      cross = below-algebra (taylor_num (a * d + c * b) q j) (taylor_den q j) (taylor_num (a * d) q j)
          (taylor_num (c * b) q j) (taylor_num a b j) (taylor_den b j) (taylor_num c d j) (taylor_den d j)
          (taylor_den-positive q j h) (sum-of-sum (a * d) (c * b) q j h)
          (sum-monotone (a * d) q a b j (omega arith)) (sum-monotone (c * b) q c d j (omega arith));
    }

-- so for the upper ends: 1/s_j(x)·1/s_j(y) ≤ 1/s_j(x + y)
pub product-of-uppers : (x y : Ratio) (j : ℕ) → order_upper x j */ order_upper y j ≤/ order_upper (x +/ y) j
unfolding exp_sum order_upper ◌*/◌
product-of-uppers x y j =
    let h = exp_sum-of-sum x y j in
    record { cross = omega (arith, h.cross) }
