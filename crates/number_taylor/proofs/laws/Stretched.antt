-- The sum with its remainder, s + r: no s is above it, it does not grow with the order, and it grows with z. At z = p/q
-- it is stretched_num p q j over stretched_den p q j; where that denominator is 0 it has no bound.
use Rattle.std.specs.Prelude.{ℕ, zero, suc, ◌+◌, ◌*◌, ◌^◌, ◌≤◌, ◌<◌, ◌≡◌}
use Rattle.std.proofs.Common.{ap, mul-le-mul, mul-le-mul_right, mul-pos, le_of_mul-le-mul_right, le-add_right, le-add_left, zero-lt-suc, pow-suc, arith}
use Rattle.number_taylor.specs.Taylor.{taylor_num, taylor_den, gap, stretched_num, stretched_den}
use Rattle.number_taylor.specs.Positive.{taylor_num-positive, stretched_num-positive}
use Rattle.number_taylor.proofs.laws.Cross.{cross-trans, rises}
use Rattle.number_taylor.proofs.laws.Sums.{sum-grows, sum-monotone, term-monotone}

-- with m = j + 2 and the gap g = m·q − p: what the remainder loses from order j to the next is p²
remainder-loss : (m p q g : ℕ) → g + p ≡ m * q →
    g * (m * (g + q)) + g * p * suc m + p * p ≡ q * m * m * (g + q)
remainder-loss m p q g e =
    omega (arith, ap (λ (x : ℕ). x * (m * (g + q))) e, ap (λ (x : ℕ). x * p) e)

-- s + r at order j + 1, times the denominators, over the numerator n and denominator d of s at order j and t = p^(j+1)
falls-algebra : (k m u v p q g n d t : ℕ) → g * (m * v) + g * p * u ≤ q * m * m * v →
    d * (k * g) * ((n * (q * k) + t) * (m * v) + t * p * u) ≤ d * (q * k) * (m * v) * (n * (k * g) + t * m)
falls-algebra k m u v p q g n d t h = omega (arith, mul-le-mul_right (d * (k * t)) h)

falls-step-gap : (p q j g g' : ℕ) → (0 < g → g + p ≡ suc (suc j) * q) → (0 < g → g' ≡ g + q) →
    taylor_den q j * (suc j * g) * (taylor_num p q (suc j) * (suc (suc j) * g') + p ^ suc (suc j) * suc (suc (suc j)))
    ≤ taylor_den q (suc j) * (suc (suc j) * g') * (taylor_num p q j * (suc j * g) + p ^ suc j * suc (suc j))
unfolding taylor_num taylor_den
falls-step-gap p q j zero g' e f = omega arith
falls-step-gap p q j (suc g) g' e f =
    let a = e (zero-lt-suc g) in
    rw (f (zero-lt-suc g), pow-suc p (suc j))
    (falls-algebra (suc j) (suc (suc j)) (suc (suc (suc j))) (suc g + q) p q (suc g) (taylor_num p q j)
    (taylor_den q j) (p ^ suc j)
    (omega (arith, remainder-loss (suc (suc j)) p q (suc g) a)))

falls-step : (p q j : ℕ) → stretched_den p q j * stretched_num p q (suc j) ≤ stretched_den p q (suc j) * stretched_num p q j
unfolding stretched_num stretched_den gap
falls-step p q j =
    falls-step-gap p q j (gap p q j) (gap p q (suc j)) (λ h. omega arith) (λ h. omega arith)

-- s + r does not grow with the order
pub stretched-falls : (p q i j : ℕ) → 0 < q → i ≤ j →
    stretched_num p q j * stretched_den p q i ≤ stretched_num p q i * stretched_den p q j
stretched-falls p q i j h l = omega (
  arith,
  rises (λ (k : ℕ). stretched_den p q k) (λ (k : ℕ). stretched_num p q k) (λ k. stretched_num-positive p q k h)
      (falls-step p q) i j l,
)

-- no s is above any s + r
same-order : (p q j : ℕ) → taylor_num p q j * stretched_den p q j ≤ stretched_num p q j * taylor_den q j
unfolding stretched_num stretched_den
same-order p q j = omega arith

pub sum-below-stretched : (p q i j : ℕ) → 0 < q →
    taylor_num p q j * stretched_den p q i ≤ stretched_num p q i * taylor_den q j
sum-below-stretched p q i j h =
    let m : ℕ = i + j in
    let s = stretched-falls p q i m h (le-add_right i j) in
    let a = sum-grows p q j m h (le-add_left j i) in
    let b = same-order p q m in
    let to-sum = cross-trans (stretched_den p q i) (stretched_num p q i) (stretched_den p q m) (stretched_num p q m)
    (taylor_den q m) (taylor_num p q m) (stretched_num-positive p q m h) (omega (arith, s)) (omega (arith, b)) in
    let all = cross-trans (stretched_den p q i) (stretched_num p q i) (taylor_den q m) (taylor_num p q m)
    (taylor_den q j) (taylor_num p q j) (taylor_num-positive p q m h) to-sum (omega (arith, a)) in
    omega (arith, all)

-- s + r grows with z
remainder-algebra : (t t' d d' q q' g g' : ℕ) → 0 < q → 0 < q' → t * (d' * q') ≤ t' * (d * q) → g' * q ≤ g * q' →
    t * d' * g' ≤ t' * d * g
remainder-algebra t t' d d' q q' g g' h h' a b =
    le_of_mul-le-mul_right {k = q * q'} (omega (arith, mul-le-mul a b)) (mul-pos h h')

-- z^(j+1)/j! grows with z
next-term : (p q p' q' j : ℕ) → p * q' ≤ p' * q →
    p ^ suc j * (taylor_den q' j * q') ≤ p' ^ suc j * (taylor_den q j * q)
next-term p q p' q' j h = rw (pow-suc p j, pow-suc p' j) (omega (arith, mul-le-mul (term-monotone p q p' q' j h) h))

monotone-algebra : (k m n n' d d' t t' g g' : ℕ) → n * d' ≤ n' * d → t * d' * g' ≤ t' * d * g →
    (n * (k * g) + t * m) * (d' * (k * g')) ≤ (n' * (k * g') + t' * m) * (d * (k * g))
monotone-algebra k m n n' d d' t t' g g' a b =
    omega (arith, mul-le-mul_right (k * g * (k * g')) a, mul-le-mul_right (m * k) b)

gap-algebra : (m p q p' q' g g' : ℕ) → p * q' ≤ p' * q → (0 < g' → g' + p' ≡ m * q') → m * q ≤ g + p →
    g' * q ≤ g * q'
gap-algebra m p q p' q' g zero h e f = omega arith
gap-algebra m p q p' q' g (suc g') h e f =
    omega (arith, ap (λ (x : ℕ). x * q) (e (zero-lt-suc g')), mul-le-mul_right q' f)

-- j + 2 − z falls with z
gap-antitone : (p q p' q' j : ℕ) → p * q' ≤ p' * q → gap p' q' j * q ≤ gap p q j * q'
unfolding gap
gap-antitone p q p' q' j h =
    gap-algebra (suc (suc j)) p q p' q' (gap p q j) (gap p' q' j) h (λ k. omega arith) (omega arith)

pub stretched-monotone : (p q p' q' j : ℕ) → 0 < q → 0 < q' → p * q' ≤ p' * q →
    stretched_num p q j * stretched_den p' q' j ≤ stretched_num p' q' j * stretched_den p q j
unfolding stretched_num stretched_den
stretched-monotone p q p' q' j h h' l =
    monotone-algebra (suc j) (suc (suc j)) (taylor_num p q j) (taylor_num p' q' j) (taylor_den q j) (taylor_den q' j)
    (p ^ suc j) (p' ^ suc j) (gap p q j) (gap p' q' j) (sum-monotone p q p' q' j l)
    (remainder-algebra (p ^ suc j) (p' ^ suc j) (taylor_den q j) (taylor_den q' j) q q' (gap p q j) (gap p' q' j) h h'
    (next-term p q p' q' j l) (gap-antitone p q p' q' j l))
