-- The brackets become as narrow as one likes: for z ≤ Z, 1/s − 1/(s + r) is less than 1/M from some order on.
use Rattle.std.specs.Prelude.{ℕ, zero, suc, ◌+◌, ◌*◌, ◌^◌, ◌≤◌, ◌<◌}
use Rattle.std.proofs.Common.{mul-le-mul, mul-le-mul_left, mul-le-mul_right, le-add_right, le_refl, zero-lt-suc, mul-lt-mul_of_pos_right, lt_of_mul-lt-mul_right, add-zero, add-suc, pow-suc, arith}
use Rattle.std.proofs.Math.Nat.{le_dest, mul-lt-mul_of_pos_left, pow-zero, one-le-pow}
use Rattle.number_taylor.specs.Taylor.{taylor_num, taylor_den, gap, stretched_num, stretched_den}
use Rattle.number_taylor.specs.Positive.{taylor_den-positive, sum-at-least-one}
use Rattle.number_taylor.specs.Order.{least_order}
use Rattle.number_taylor.proofs.laws.Sums.{term-monotone}

two-pow-above : (k : ℕ) → k < 2 ^ k
two-pow-above zero = le_refl 1
two-pow-above (suc k) = rw (pow-suc 2 k) (omega (arith, two-pow-above k))

-- from j = 2·Z on each term Z^j/j! is at most half of the one before
halves-step : (a b t d Z c : ℕ) → a * t ≤ b * d → 2 * Z ≤ c → a * 2 * (t * Z) ≤ b * (d * (1 * c))
halves-step a b t d Z c h l = omega (arith, mul-le-mul h l)

halves : (Z i k : ℕ) → 2 * Z ≤ i → 2 ^ k * Z ^ (i + k) ≤ Z ^ i * taylor_den 1 (i + k)
unfolding taylor_den
halves Z i zero h = rw (add-zero i, pow-zero 2)
    (omega (arith, mul-le-mul_left (Z ^ i) (taylor_den-positive 1 i (le_refl 1))))
halves Z i (suc k) h = rw (add-suc i k, pow-suc 2 k, pow-suc Z (i + k))
    (halves-step (2 ^ k) (Z ^ i) (Z ^ (i + k)) (taylor_den 1 (i + k)) Z (suc (i + k)) (halves Z i k h) (omega arith))

-- so that from some order on they are below 1/(2·M)
small-algebra : (M k a t z d : ℕ) → 0 < t → 2 * M * z ≤ k → k < a → a * t ≤ z * d → 2 * M * t < d
small-algebra M k a t z d h l s e =
    lt_of_mul-lt-mul_right z (omega (arith, mul-lt-mul_of_pos_right s h, mul-le-mul_right t l))

small_by : (Z M k : ℕ) → 0 < Z → 2 * M * Z ^ (2 * Z) ≤ k → 2 * M * Z ^ (2 * Z + k) < taylor_den 1 (2 * Z + k)
small_by Z M k h l =
    small-algebra M k (2 ^ k) (Z ^ (2 * Z + k)) (Z ^ (2 * Z)) (taylor_den 1 (2 * Z + k)) (one-le-pow (2 * Z + k) Z h) l
    (two-pow-above k) (halves Z (2 * Z) k (le_refl (2 * Z)))

small : (Z M j : ℕ) → 0 < Z → 2 * Z + 2 * M * Z ^ (2 * Z) ≤ j → 2 * M * Z ^ j < taylor_den 1 j
small Z M j h l =
    let e = le_dest {n = 2 * Z} {m = j} (omega arith) in
    rw (← e.1) (small_by Z M e.0 h (omega (arith, e.1)))

-- the order from which the bracket is narrower than 1/M for every z ≤ Z
pub narrow_order : ℕ → ℕ → ℕ
narrow_order Z M = least_order + (2 * suc Z + 2 * M * suc Z ^ (2 * suc Z))

pub narrow_order-counts : (Z M : ℕ) → least_order ≤ narrow_order Z M
unfolding narrow_order
narrow_order-counts Z M = le-add_right least_order (2 * suc Z + 2 * M * suc Z ^ (2 * suc Z))

-- z^(j+1)/(j+1)! < 1/(2·M) for every z = p/q ≤ Z
small-term-algebra : (M t u d e : ℕ) → 0 < e → t * d ≤ u * e → 2 * M * u < d → 2 * M * t < e
small-term-algebra M t u d e h a b =
    lt_of_mul-lt-mul_right d (omega (arith, mul-lt-mul_of_pos_right b h, mul-le-mul_left (2 * M) a))

small-term : (Z M p q j : ℕ) → 0 < q → p ≤ suc Z * q → 2 * suc Z + 2 * M * suc Z ^ (2 * suc Z) ≤ j →
    2 * M * p ^ j < taylor_den q j
small-term Z M p q j h l k =
    small-term-algebra M (p ^ j) (suc Z ^ j) (taylor_den 1 j) (taylor_den q j) (taylor_den-positive q j h)
    (term-monotone p q (suc Z) 1 j (omega arith)) (small (suc Z) M j (zero-lt-suc Z) k)

-- r ≤ 2·z^(j+1)/(j+1)!, since j + 2 ≤ 2·(j + 2 − z)
wide-gap : (Z p q j : ℕ) → p ≤ suc Z * q → 2 * suc Z ≤ j → suc (suc j) * q ≤ 2 * gap p q j
unfolding gap
wide-gap Z p q j l k = omega (arith, mul-le-mul_right q k)

remainder-algebra : (M t m k q d g : ℕ) → 0 < m → 2 * M * t < d * (q * k) → m * q ≤ 2 * g → M * (t * m) < d * (k * g)
remainder-algebra M t m k q d g h a b =
    omega (arith, mul-lt-mul_of_pos_right a h, mul-le-mul_right (d * k) b)

-- 1/s − 1/(s + r) ≤ r, since 1 ≤ s
narrow-algebra : (M n d x r : ℕ) → 0 < d → d ≤ n → M * r < d * x → d * ((n * x + r) * M) < (d * x * M + (n * x + r)) * n
narrow-algebra M n d x r h l a =
    omega (arith, mul-lt-mul_of_pos_left a h, mul-le-mul_right x (mul-le-mul l l))

-- 1/s − 1/(s + r) < 1/M
pub narrowing : (Z M j p q : ℕ) → narrow_order Z M ≤ j → 0 < q → p ≤ Z * q →
    taylor_den q j * (stretched_num p q j * M)
    < (stretched_den p q j * M + stretched_num p q j) * taylor_num p q j
unfolding stretched_num stretched_den narrow_order taylor_den
narrowing Z M j p q l h k =
    narrow-algebra M (taylor_num p q j) (taylor_den q j) (suc j * gap p q j) (p ^ suc j * suc (suc j))
    (taylor_den-positive q j h) (sum-at-least-one p q j)
    (remainder-algebra M (p ^ suc j) (suc (suc j)) (suc j) q (taylor_den q j) (gap p q j) (zero-lt-suc (suc j))
    (small-term Z M p q (suc j) h (omega arith) (omega arith))
    (wide-gap Z p q j (omega arith) (omega arith)))
