-- Double sums of a(i)·b(k), over i + k = m and over i + k ≤ j, and the sequences w·z^m/m!: the double sum over
-- i + k = m of two of these, for x and y, is w times the term for x + y.
use Prim.Native.Nat.{ℕ, zero, suc, ◌+◌, ◌*◌, ◌≤◌, ◌<◌, zero-le}
use Rattle.std.specs.Prelude.{◌≡◌, refl}
use Rattle.std.proofs.Math.Path.{ap}
use Rattle.std.proofs.Common.{mul-le-mul_left, mul-pos, zero-lt-suc, le_refl, zero-add, suc-add, arith}
use Rattle.std.proofs.Math.Nat.{eq_of_mul-eq-mul_left}

-- a 0 + … + a j
unfoldable pub partial : (ℕ → ℕ) → ℕ → ℕ
partial a zero = a zero
partial a (suc j) = partial a j + a (suc j)

-- the sum of a(i)·b(k) over i + k = m
unfoldable pub convolution : (ℕ → ℕ) → (ℕ → ℕ) → ℕ → ℕ
convolution a b zero = a zero * b zero
convolution a b (suc m) = a zero * b (suc m) + convolution (λ i. a (suc i)) b m

-- the sum of a(i)·b(k) over i + k ≤ j
unfoldable pub triangle : (ℕ → ℕ) → (ℕ → ℕ) → ℕ → ℕ
triangle a b zero = a zero * b zero
triangle a b (suc j) = a zero * partial b (suc j) + triangle (λ i. a (suc i)) b j

partial-front : (a : ℕ → ℕ) (j : ℕ) → partial a (suc j) ≡ a zero + partial (λ i. a (suc i)) j
unfolding partial
partial-front a zero = refl
partial-front a (suc j) = omega (arith, partial-front a j)

partial-rises : (a : ℕ → ℕ) (j k : ℕ) → partial a j ≤ partial a (k + j)
unfolding partial
partial-rises a j zero = rw zero-add (le_refl (partial a j))
partial-rises a j (suc k) = rw suc-add (omega (arith, partial-rises a j k))

-- a triangle lies within its square
pub triangle-below : (a b : ℕ → ℕ) (j : ℕ) → triangle a b j ≤ partial a j * partial b j
unfolding partial triangle
triangle-below a b zero = le_refl (a zero * b zero)
triangle-below a b (suc j) = rw (partial-front a j)
    (omega (arith, triangle-below (λ i. a (suc i)) b j))

-- a rectangle lies within a triangle
first-row : (a b : ℕ → ℕ) (j : ℕ) → a zero * partial b j ≤ triangle a b j
unfolding partial triangle
first-row a b zero = le_refl (a zero * b zero)
first-row a b (suc j) = omega arith

pub triangle-above : (a b : ℕ → ℕ) (i j : ℕ) → partial a i * partial b j ≤ triangle a b (i + j)
unfolding partial triangle
triangle-above a b zero j = rw zero-add (first-row a b j)
triangle-above a b (suc i) j = rw (partial-front a i, suc-add i j)
    (omega (
      arith,
      triangle-above (λ k. a (suc k)) b i j,
      mul-le-mul_left (a zero) (rw suc-add at (partial-rises b j (suc i))),
    ))

-- a triangle is its diagonals, added up
triangle-diagonal : (a b : ℕ → ℕ) (j : ℕ) → triangle a b (suc j) ≡ triangle a b j + convolution a b (suc j)
unfolding partial triangle convolution
triangle-diagonal a b zero = omega arith
triangle-diagonal a b (suc j) = omega (arith, triangle-diagonal (λ i. a (suc i)) b j)

-- a convolution is additive in its first sequence
convolution-add : (f g h b : ℕ → ℕ) (m : ℕ) → ((i : ℕ) → f i ≡ g i + h i) →
    convolution f b m ≡ convolution g b m + convolution h b m
unfolding convolution
convolution-add f g h b zero e = omega (arith, ap (λ (x : ℕ). x * b zero) (e zero))
convolution-add f g h b (suc m) e = omega (
  arith,
  ap (λ (x : ℕ). x * b (suc m)) (e zero),
  convolution-add (λ i. f (suc i)) (λ i. g (suc i)) (λ i. h (suc i)) b m (λ i. e (suc i)),
)

-- a factor of the first sequence
convolution-scale : (r s : ℕ) (f g b : ℕ → ℕ) (m : ℕ) → ((i : ℕ) → i ≤ m → r * f i ≡ s * g i) →
    r * convolution f b m ≡ s * convolution g b m
unfolding convolution
convolution-scale r s f g b zero e = omega (arith, ap (λ (x : ℕ). x * b zero) (e zero (le_refl 0)))
convolution-scale r s f g b (suc m) e = omega (
  arith,
  ap (λ (x : ℕ). x * b (suc m)) (e zero zero-le),
  convolution-scale r s (λ i. f (suc i)) (λ i. g (suc i)) b m (λ i h. e (suc i) (omega (arith, h))),
)

-- a factor of the second sequence, which starts with 0
convolution-scale-right : (r s : ℕ) (a f g : ℕ → ℕ) (m : ℕ) → f zero ≡ 0 →
    ((k : ℕ) → k ≤ m → r * f (suc k) ≡ s * g k) → r * convolution a f (suc m) ≡ s * convolution a g m
unfolding convolution
convolution-scale-right r s a f g zero z e =
    omega (arith, ap (λ (x : ℕ). x * a zero) (e zero (le_refl 0)), ap (λ (x : ℕ). r * (x * a 1)) z)
convolution-scale-right r s a f g (suc m) z e =
    omega (
      arith,
      ap (λ (x : ℕ). x * a zero) (e (suc m) (le_refl (suc m))),
      convolution-scale-right r s (λ i. a (suc i)) f g m z (λ k h. e k (omega (arith, h))),
    )

-- m·(a(i)·b(k)) = (i·a(i))·b(k) + a(i)·(k·b(k)) where i + k = m
leibniz : (a b : ℕ → ℕ) (m : ℕ) →
    m * convolution a b m ≡ convolution (λ i. i * a i) b m + convolution a (λ k. k * b k) m
unfolding convolution
leibniz a b zero = omega arith
leibniz a b (suc m) = omega (
  arith,
  leibniz (λ i. a (suc i)) b m,
  convolution-add (λ i. suc i * a (suc i)) (λ i. i * a (suc i)) (λ i. a (suc i)) b m (λ i. omega arith),
)

-- the sequence a is w·z^m/m! for m ≤ M, at z = p/q
pub record Exponential (p q M w : ℕ) (a : ℕ → ℕ) : Type 0 where
  pub start : a zero ≡ w
  pub step : (m : ℕ) → m < M → q * (suc m * a (suc m)) ≡ p * a m

diagonal-algebra : (p q w k x x' u u' : ℕ) → q * (k * x') ≡ p * x → x ≡ w * u → q * (k * u') ≡ p * u →
    q * k * x' ≡ q * k * (w * u')
diagonal-algebra p q w k x x' u u' a b c = omega (arith, ap (λ (n : ℕ). p * n) b, ap (λ (n : ℕ). w * n) c)

module _ (p p' q M w : ℕ) (a b c : ℕ → ℕ) (ea : Exponential p q M w a) (eb : Exponential p' q M w b)
    (ec : Exponential (p + p') q M w c) (positive : 0 < q) where
  next-diagonal : (m : ℕ) → m < M → q * (suc m * convolution a b (suc m)) ≡ (p + p') * convolution a b m
  unfolding convolution
  next-diagonal m h =
      let l = ap (λ (x : ℕ). q * x) (leibniz a b (suc m)) in
      let f = convolution-scale q p (λ i. suc i * a (suc i)) a b m (λ i k. ea.step i (omega arith)) in
      let g = convolution-scale-right q p' a (λ k. k * b k) b m (omega arith) (λ i k. eb.step i (omega arith)) in
      omega (arith, l, f, g)

  diagonal : (m : ℕ) → m ≤ M → convolution a b m ≡ w * c m
  unfolding convolution
  diagonal zero h = rw (ea.start, eb.start, ec.start)
  diagonal (suc m) h =
      eq_of_mul-eq-mul_left (q * suc m) (mul-pos positive (zero-lt-suc m)) (convolution a b (suc m)) (w * c (suc m))
      (diagonal-algebra (p + p') q w (suc m) (convolution a b m) (convolution a b (suc m)) (c m) (c (suc m))
      (next-diagonal m h) (diagonal m (omega arith)) (ec.step m h))

  -- e^x·e^y = e^(x+y), as far as the sums over a triangle show it
  pub triangle-sum : (j : ℕ) → j ≤ M → triangle a b j ≡ w * partial c j
  unfolding triangle partial convolution
  triangle-sum zero h = diagonal zero h
  triangle-sum (suc j) h = omega (arith, triangle-diagonal a b j, diagonal (suc j) h, triangle-sum j (omega (arith, h)))
