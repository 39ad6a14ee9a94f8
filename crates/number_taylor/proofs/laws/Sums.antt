-- The sum s of z^i/i! for i to j: it grows with the order j and with z, and (1 − z)·s is at most 1. At z = p/q it is
-- taylor_num p q j over taylor_den q j.
use Rattle.std.specs.Prelude.{ℕ, zero, suc, ◌+◌, ◌*◌, ◌^◌, ◌≤◌, ◌<◌}
use Rattle.std.proofs.Common.{mul-le-mul, mul-le-mul_right, le_refl, pow-suc, arith}
use Rattle.std.proofs.Math.Nat.{pow-zero}
use Rattle.number_taylor.specs.Taylor.{taylor_num, taylor_den}
use Rattle.number_taylor.specs.Positive.{taylor_den-positive}
use Rattle.number_taylor.proofs.laws.Cross.{rises}

-- z^j/j! grows with z
term-step : (t t' p p' q q' j d d' : ℕ) → t * d' ≤ t' * d → p * q' ≤ p' * q →
    t * p * (d' * (q' * suc j)) ≤ t' * p' * (d * (q * suc j))
term-step t t' p p' q q' j d d' a b = omega (arith, mul-le-mul_right (suc j) (mul-le-mul a b))

pub term-monotone : (p q p' q' j : ℕ) → p * q' ≤ p' * q → p ^ j * taylor_den q' j ≤ p' ^ j * taylor_den q j
unfolding taylor_den
term-monotone p q p' q' zero h = rw (pow-zero p, pow-zero p') (le_refl (1 * 1))
term-monotone p q p' q' (suc j) h = rw (pow-suc p j, pow-suc p' j)
    (term-step (p ^ j) (p' ^ j) p p' q q' j (taylor_den q j) (taylor_den q' j) (term-monotone p q p' q' j h) h)

-- s grows with z
monotone-step : (n n' d d' t t' c c' : ℕ) → n * d' ≤ n' * d → t * (d' * c') ≤ t' * (d * c) →
    (n * c + t) * (d' * c') ≤ (n' * c' + t') * (d * c)
monotone-step n n' d d' t t' c c' a b = omega (arith, mul-le-mul_right (c * c') a, b)

pub sum-monotone : (p q p' q' j : ℕ) → p * q' ≤ p' * q →
    taylor_num p q j * taylor_den q' j ≤ taylor_num p' q' j * taylor_den q j
unfolding taylor_den taylor_num
sum-monotone p q p' q' zero h = le_refl (1 * 1)
sum-monotone p q p' q' (suc j) h =
    monotone-step (taylor_num p q j) (taylor_num p' q' j) (taylor_den q j) (taylor_den q' j) (p ^ suc j) (p' ^ suc j)
    (q * suc j) (q' * suc j) (sum-monotone p q p' q' j h) (term-monotone p q p' q' (suc j) h)

-- s grows with the order
sum_step : (p q j : ℕ) → taylor_num p q j * taylor_den q (suc j) ≤ taylor_num p q (suc j) * taylor_den q j
unfolding taylor_den taylor_num
sum_step p q j = omega arith

pub sum-grows : (p q i j : ℕ) → 0 < q → i ≤ j →
    taylor_num p q i * taylor_den q j ≤ taylor_num p q j * taylor_den q i
sum-grows p q i j h l =
    rises (λ (k : ℕ). taylor_num p q k) (λ (k : ℕ). taylor_den q k) (λ k. taylor_den-positive q k h) (sum_step p q) i j l

-- (1 − z)·s ≤ 1 − z^(j+1)/j!
slope-step : (p q j n d t : ℕ) → q * n + t ≤ q * d + p * n →
    q * (n * (q * suc j) + t) + t * p ≤ q * (d * (q * suc j)) + p * (n * (q * suc j) + t)
slope-step p q j n d t h = omega (arith, mul-le-mul_right (q * suc j) h)

slope-exact : (p q j : ℕ) → q * taylor_num p q j + p ^ suc j ≤ q * taylor_den q j + p * taylor_num p q j
unfolding taylor_den taylor_num
slope-exact p q zero = rw (pow-suc p zero, pow-zero p) (omega arith)
slope-exact p q (suc j) = rw (pow-suc p (suc j))
    (slope-step p q j (taylor_num p q j) (taylor_den q j) (p ^ suc j) (slope-exact p q j))

-- (1 − z)·s ≤ 1
pub sum-slope : (p q j : ℕ) → q * taylor_num p q j ≤ q * taylor_den q j + p * taylor_num p q j
sum-slope p q j = omega (arith, slope-exact p q j)
