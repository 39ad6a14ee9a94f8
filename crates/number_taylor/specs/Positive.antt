-- The numerators and denominators of the Taylor sums are positive where q is.
use Rattle.std.specs.Prelude.{ℕ, zero, suc, ◌*◌, ◌≤◌, ◌<◌, ◌≡◌}
use Rattle.std.proofs.Common.{inl, inr, mul-pos, mul-le-mul_right, zero-lt-suc, eq-zero-or-pos, le_refl, arith}
use Rattle.std.proofs.Math.Nat.{one-le-pow}
use Rattle.number_taylor.specs.Taylor.{taylor_num, taylor_den, gap, stretched_num}

-- 0 < q^j·j!
pub taylor_den-positive : (q j : ℕ) → 0 < q → 0 < taylor_den q j
unfolding taylor_den
taylor_den-positive q zero h = le_refl 1
taylor_den-positive q (suc j) h = mul-pos (taylor_den-positive q j h) (mul-pos h (zero-lt-suc j))

-- 1 ≤ s
pub sum-at-least-one : (p q j : ℕ) → taylor_den q j ≤ taylor_num p q j
unfolding taylor_den taylor_num
sum-at-least-one p q zero = le_refl 1
sum-at-least-one p q (suc j) = omega (arith, mul-le-mul_right (q * suc j) (sum-at-least-one p q j))

-- the numerator of s is positive
pub taylor_num-positive : (p q j : ℕ) → 0 < q → 0 < taylor_num p q j
taylor_num-positive p q j h = omega (arith, taylor_den-positive q j h, sum-at-least-one p q j)

-- the numerator of s + r is positive: where the gap is 0, z is not
num-without-gap : (p q j : ℕ) → 0 < q → gap p q j ≡ 0 → 0 < p
unfolding gap
num-without-gap p q j h e = omega (arith, mul-pos (zero-lt-suc (suc j)) h)

pub stretched_num-positive : (p q j : ℕ) → 0 < q → 0 < stretched_num p q j
unfolding stretched_num
stretched_num-positive p q j h = elim (eq-zero-or-pos (gap p q j)) [
  | inl e ↦ omega (arith, one-le-pow (suc j) p (num-without-gap p q j h e))
  | inr k ↦ omega (arith, mul-pos (taylor_num-positive p q j h) k)
]
