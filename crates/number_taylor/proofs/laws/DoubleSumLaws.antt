-- The alternating sum of the rows lies above or below t(0), by the sign of its last row: neighbouring rows share their
-- edges, which cancel, and what is left falls from row to row. For any sequence t with (n + 1)·t(n + 1) ≤ t(n) for n < M.
use Rattle.std.specs.Prelude.{◌≡◌, ◌⊎◌}
use Rattle.std.proofs.Math.Path.{ap}
use Rattle.std.proofs.Common.{inl, inr, zero-add, eq-or-lt_of_le, le_of_suc-le-suc, not-suc-le-zero}
use Prim.Native.Nat.{ℕ, zero, suc, ◌+◌, ◌*◌, ◌≤◌, ◌<◌}
use Rattle.std.proofs.Math.Nat.{suc-add, le_dest, mul-le-mul_left, mul-le-mul_right}
use native.Mathlib.Omega.{arith}
use Rattle.number_taylor.specs.Alternating.{double}
use Rattle.number_taylor.proofs.laws.DoubleSums.{sum, evens, odds, choose, row, edge, edges}

choose-pos : (i k : ℕ) → 0 < choose i k
unfolding choose sum
choose-pos zero k = omega arith
choose-pos (suc i) k = omega (arith, choose-pos i k)

choose-mono : (i k : ℕ) → choose i k ≤ choose i (suc k)
unfolding choose sum
choose-mono zero k = omega arith
choose-mono (suc i) k = omega arith

-- k + 1 numbers, of which the last is the largest
choose-bound : (i k : ℕ) → choose (suc i) k ≤ choose i k * suc k
unfolding choose sum
choose-bound i zero = omega arith
choose-bound i (suc k) = omega (arith, choose-bound i k, mul-le-mul_right (suc k) (choose-mono i k))

module _ (t : ℕ → ℕ) where
  -- the first row is t(0) and its own edges; each other has the edges of the row before, to column j, and its own
  row_zero : (j : ℕ) → row t j 0 ≡ t 0 + edges t j 0
  unfolding row edges edge sum choose
  row_zero zero = omega arith
  row_zero (suc j) = omega (arith, row_zero j, ap t (zero-add (suc j)), ap t (ap suc (zero-add j)))

  row-suc : (j i : ℕ) → row t j (suc i) ≡ edges t j i + edge t j i + edges t j (suc i)
  unfolding row edges edge sum choose
  row-suc zero i = rw suc-add (omega arith)
  row-suc (suc j) i =
      let far : suc i + suc j ≡ suc (suc (i + j)) = omega arith in
      let here : suc (i + suc j) ≡ suc (suc (i + j)) = omega arith in
      let next : suc (suc i + j) ≡ suc (suc (i + j)) = omega arith in
      omega (
        arith,
        row-suc j i,
        ap (λ (n : ℕ). choose (suc i) (suc j) * t n) far,
        ap (λ (n : ℕ). choose i (suc j) * t n) here,
        ap (λ (n : ℕ). choose (suc i) j * t n) next,
      )

-- a summand is at most the sum
summand : (f : ℕ → ℕ) (n k : ℕ) → k < n → f k ≤ sum f n
unfolding sum
summand f zero k h = absurd (not-suc-le-zero h)
summand f (suc n) k h = go (eq-or-lt_of_le (le_of_suc-le-suc h)) (summand f n k)
  where
    go : (k ≡ n) ⊎ (k < n) → (k < n → f k ≤ sum f n) → f k ≤ sum f n + f n
    go (inl e) ih = omega (arith, ap f e)
    go (inr l) ih = omega (arith, ih l)

-- the first row's edge at j is among the edges of row m to column j
edge-low : (t : ℕ → ℕ) (j m : ℕ) → m ≤ j → edge t j 0 ≤ edges t (suc j) m
unfolding edge edges choose
edge-low t j m h =
    let k = le_dest h in
    let there : edge t k.0 m ≤ edges t (suc j) m = summand (λ (b : ℕ). edge t b m) (suc j) k.0 (omega arith) in
    omega (
      arith,
      there,
      ap t (ap suc (zero-add j)),
      mul-le-mul_right (t (suc j)) (choose-pos m k.0),
      ap (λ (n : ℕ). choose m k.0 * t (suc n)) k.1,
    )

module _ (t : ℕ → ℕ) (M : ℕ) (falls : (n : ℕ) → n < M → suc n * t (suc n) ≤ t n) (j : ℕ) where
  edge-falls : (i : ℕ) → suc (i + j) < M → edge t j (suc i) ≤ edge t j i
  unfolding edge
  edge-falls i h =
      rw (suc-add i j) (
      omega (
        arith,
        mul-le-mul_right (t (suc (suc (i + j)))) (choose-bound i j),
        mul-le-mul_left (choose i j) (falls (suc (i + j)) h),
      )
      )

  -- the two sides with what is left of the rows: the edges of the last one
  rows_above : (h : ℕ) → double h + j < M
      → t 0 + odds (row t j) h + edges t (suc j) (double h) ≤ evens (row t j) h + edge t j 0
  unfolding evens odds edges sum double
  rows_above zero l = omega (arith, row_zero t j)
  rows_above (suc h) l =
      omega (
        arith,
        rows_above h (omega arith),
        row-suc t j (double h),
        row-suc t j (suc (double h)),
        edge-falls (suc (double h)) (omega arith),
      )

  rows-below : (h : ℕ) → double h + j < M → evens (row t j) h ≤ t 0 + odds (row t j) h + edges t j (double h)
  unfolding evens odds edges sum double
  rows-below zero l = omega (arith, row_zero t j)
  rows-below (suc h) l =
      omega (
        arith,
        rows-below h (omega arith),
        row-suc t j (double h),
        row-suc t j (suc (double h)),
        edge-falls (double h) (omega arith),
      )

  -- the alternating sum of the rows 0 to 2h is at least t(0)
  pub even-rows : (h : ℕ) → double h ≤ j → double h + j < M → t 0 + odds (row t j) h ≤ evens (row t j) h
  even-rows h l l_m = omega (arith, rows_above h l_m, edge-low t j (double h) l)

  -- the alternating sum of the rows 0 to 2h + 1 is at most t(0)
  pub odd-rows : (h : ℕ) → double h + j < M → evens (row t j) h ≤ t 0 + odds (row t j) (suc h)
  unfolding odds sum
  odd-rows h l_m = omega (arith, rows-below h l_m, row-suc t j (double h))
