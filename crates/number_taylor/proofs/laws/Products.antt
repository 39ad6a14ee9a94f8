-- The sum s for x + y against the sums for x and for y: s_j(x + y) ≤ s_j(x)·s_j(y), and s_i(x)·s_j(y) ≤ s_(i+j)(x + y).
use Rattle.std.specs.Prelude.{ℕ, zero, suc, ◌+◌, ◌*◌, ◌/◌, ◌^◌, ◌≤◌, ◌<◌, ◌≡◌}
use Rattle.std.proofs.Common.{zero-le, ap, mul-le-mul_right, mul-pos, le_refl, le-add_right, le-add_left, le_of_mul-le-mul_right, add-zero, add-suc, pow-suc, arith}
use Rattle.std.specs.Int.{◌∣◌}
use Rattle.std.proofs.Math.Nat.{le_dest, dvd_refl, dvd-mul_right_of_dvd, div-mul_cancel, eq_of_mul-eq-mul_right, pow-zero}
use Rattle.number_taylor.specs.Taylor.{taylor_num, taylor_den}
use Rattle.number_taylor.specs.Positive.{taylor_den-positive}
use Rattle.number_taylor.proofs.laws.Convolution.{partial, triangle, triangle-below, triangle-above, Exponential, triangle-sum}

-- q^m·m! divides q^M·M! for m ≤ M
den-divides-by : (q m k : ℕ) → taylor_den q m ∣ taylor_den q (m + k)
unfolding taylor_den
den-divides-by q m zero = rw add-zero (dvd_refl (taylor_den q m))
den-divides-by q m (suc k) = rw add-suc
    (dvd-mul_right_of_dvd (taylor_den q m) (den-divides-by q m k) (q * suc (m + k)))

den-divides : (q m M : ℕ) → m ≤ M → taylor_den q m ∣ taylor_den q M
den-divides q m M h = rw (← (le_dest h).1) (den-divides-by q m (le_dest h).0)

-- their quotient
weight : ℕ → ℕ → ℕ → ℕ
weight q M m = taylor_den q M / taylor_den q m

weight-exact : (q M m : ℕ) → m ≤ M → weight q M m * taylor_den q m ≡ taylor_den q M
unfolding weight
weight-exact q M m h = div-mul_cancel (taylor_den q m) (den-divides q m M h)

-- z^m/m!, over the denominator q^M·M!
term : ℕ → ℕ → ℕ → ℕ → ℕ
term p q M m = p ^ m * weight q M m

weight-algebra : (w w' d c W : ℕ) → w * d ≡ W → w' * (d * c) ≡ W → w' * c * d ≡ w * d
weight-algebra w w' d c W a b = omega arith

weight-step : (q M m : ℕ) → 0 < q → m < M → weight q M (suc m) * (q * suc m) ≡ weight q M m
unfolding taylor_den
weight-step q M m h l =
    eq_of_mul-eq-mul_right (taylor_den q m) (taylor_den-positive q m h) (weight q M (suc m) * (q * suc m)) (weight q M m)
    (weight-algebra (weight q M m) (weight q M (suc m)) (taylor_den q m) (q * suc m) (taylor_den q M)
    (weight-exact q M m (omega arith)) (weight-exact q M (suc m) l))

term-algebra : (p q t w w' k : ℕ) → w' * (q * k) ≡ w → q * (k * (t * p * w')) ≡ p * (t * w)
term-algebra p q t w w' k e = omega (arith, ap (λ (x : ℕ). p * (t * x)) e)

first-term : (p q M : ℕ) → term p q M zero ≡ taylor_den q M
unfolding term taylor_den
first-term p q M = rw (pow-zero p) (omega (arith, weight-exact q M zero zero-le))

terms : (p q M : ℕ) → 0 < q → Exponential p q M (taylor_den q M) (term p q M)
unfolding term
terms p q M h = record {
  start = first-term p q M;
  step = λ m l. rw (pow-suc p m)
      (term-algebra p q (p ^ m) (weight q M m) (weight q M (suc m)) (suc m) (weight-step q M m h l));
}

partial-algebra : (s n t w c d W : ℕ) → s * d ≡ W * n → w * (d * c) ≡ W → (s + t * w) * (d * c) ≡ W * (n * c + t)
partial-algebra s n t w c d W a b = omega (arith, ap (λ (x : ℕ). x * c) a, ap (λ (x : ℕ). t * x) b)

-- the terms add up to s
partial-terms : (p q M j : ℕ) → j ≤ M → partial (term p q M) j * taylor_den q j ≡ taylor_den q M * taylor_num p q j
unfolding partial term taylor_num taylor_den
partial-terms p q M zero h = omega (arith, first-term p q M)
partial-terms p q M (suc j) h =
    partial-algebra (partial (term p q M) j) (taylor_num p q j) (p ^ suc j) (weight q M (suc j)) (q * suc j)
    (taylor_den q j) (taylor_den q M) (partial-terms p q M j (omega arith)) (weight-exact q M (suc j) h)

-- back from sums over the one denominator W: with the denominators d, e, f and the sums A, B, C
products-algebra : (A B C W n n' m d e f : ℕ) → A * d ≡ W * n → B * e ≡ W * n' → C * f ≡ W * m →
    (A * B * (d * e * f) ≡ n * n' * f * (W * W)) × (W * C * (d * e * f) ≡ m * (d * e) * (W * W))
products-algebra A B C W n n' m d e f a b c = (
  omega (arith, ap (λ (x : ℕ). x * (B * e * f)) a, ap (λ (x : ℕ). W * n * (x * f)) b),
  omega (arith, ap (λ (x : ℕ). W * (d * (e * x))) c),
)

below-algebra : (A B C W n n' m d : ℕ) → 0 < d → 0 < W → W * C ≤ A * B →
    A * d ≡ W * n → B * d ≡ W * n' → C * d ≡ W * m → m * d ≤ n * n'
below-algebra A B C W n n' m d h k l a b c =
    le_of_mul-le-mul_right {k = d * (W * W)}
    (omega (arith, mul-le-mul_right (d * d * d) l, products-algebra A B C W n n' m d d d a b c))
    (mul-pos h (mul-pos k k))

above-algebra : (A B C W n n' m d e f : ℕ) → 0 < W → A * B ≤ W * C →
    A * d ≡ W * n → B * e ≡ W * n' → C * f ≡ W * m → n * n' * f ≤ m * (d * e)
above-algebra A B C W n n' m d e f k l a b c =
    le_of_mul-le-mul_right {k = W * W}
    (omega (arith, mul-le-mul_right (d * e * f) l, products-algebra A B C W n n' m d e f a b c))
    (mul-pos k k)

-- the sum over a triangle of the terms for x = p/q and y = p'/q is the sum for x + y
terms-triangle : (p p' q M : ℕ) → 0 < q →
    triangle (term p q M) (term p' q M) M ≡ taylor_den q M * partial (term (p + p') q M) M
terms-triangle p p' q M h =
    triangle-sum p p' q M (taylor_den q M) (term p q M) (term p' q M) (term (p + p') q M)
    (terms p q M h) (terms p' q M h) (terms (p + p') q M h) h M (le_refl M)

-- s_j(x + y) ≤ s_j(x)·s_j(y)
pub sum-of-sum : (p p' q j : ℕ) → 0 < q →
    taylor_num (p + p') q j * taylor_den q j ≤ taylor_num p q j * taylor_num p' q j
sum-of-sum p p' q j h =
    below-algebra (partial (term p q j) j) (partial (term p' q j) j) (partial (term (p + p') q j) j) (taylor_den q j)
    (taylor_num p q j) (taylor_num p' q j) (taylor_num (p + p') q j) (taylor_den q j)
    (taylor_den-positive q j h) (taylor_den-positive q j h)
    (omega (arith, terms-triangle p p' q j h, triangle-below (term p q j) (term p' q j) j))
    (partial-terms p q j j (le_refl j)) (partial-terms p' q j j (le_refl j))
    (partial-terms (p + p') q j j (le_refl j))

-- s_i(x)·s_j(y) ≤ s_(i+j)(x + y)
pub product-of-sums : (p p' q i j : ℕ) → 0 < q →
    taylor_num p q i * taylor_num p' q j * taylor_den q (i + j)
    ≤ taylor_num (p + p') q (i + j) * (taylor_den q i * taylor_den q j)
product-of-sums p p' q i j h =
    let M : ℕ = i + j in
    above-algebra (partial (term p q M) i) (partial (term p' q M) j) (partial (term (p + p') q M) M) (taylor_den q M)
    (taylor_num p q i) (taylor_num p' q j) (taylor_num (p + p') q M) (taylor_den q i) (taylor_den q j) (taylor_den q M)
    (taylor_den-positive q M h)
    (omega (arith, terms-triangle p p' q M h, triangle-above (term p q M) (term p' q M) i j))
    (partial-terms p q M i (le-add_right i j)) (partial-terms p' q M j (le-add_left j i))
    (partial-terms (p + p') q M M (le_refl M))
