-- The product of two exponential sums, row by row: t(n) stands for x^n/n!, and t(i) times the sum of the t(k) is a row.
use Rattle.std.specs.Prelude.{ℕ, zero, suc, ◌+◌, ◌*◌}
use Rattle.number_taylor.specs.Alternating.{double}

-- the sum of f(i) for i < n
unfoldable pub sum : (ℕ → ℕ) → ℕ → ℕ
sum f zero = 0
sum f (suc n) = sum f n + f n

-- f(0) + f(2) + … + f(2h)
unfoldable pub evens : (ℕ → ℕ) → ℕ → ℕ
evens f h = sum (λ (i : ℕ). f (double i)) (suc h)

-- f(1) + f(3) + … + f(2h − 1)
unfoldable pub odds : (ℕ → ℕ) → ℕ → ℕ
odds f h = sum (λ (i : ℕ). f (suc (double i))) h

-- the number of ways to choose i things among i + k, by the sum over a column of Pascal's triangle
unfoldable pub choose : ℕ → ℕ → ℕ
choose zero k = 1
choose (suc i) k = sum (choose i) (suc k)

-- x^i/i! times the sum of x^k/k! for k ≤ j
unfoldable pub row : (ℕ → ℕ) → ℕ → ℕ → ℕ
row t j i = sum (λ (k : ℕ). choose i k * t (i + k)) (suc j)

-- what a row and the next one share at column j
unfoldable pub edge : (ℕ → ℕ) → ℕ → ℕ → ℕ
edge t j i = choose i j * t (suc (i + j))

-- the sum of the edges of row i before column j
unfoldable pub edges : (ℕ → ℕ) → ℕ → ℕ → ℕ
edges t j i = sum (λ (b : ℕ). edge t b i) j
