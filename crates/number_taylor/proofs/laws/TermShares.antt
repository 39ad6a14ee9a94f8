-- The terms x^n/n! at x = p/q over one denominator, q^M·M!, exact for n ≤ M.
use Rattle.std.specs.Prelude.{ℕ, zero, suc, ◌+◌, ◌-◌, ◌*◌, ◌^◌}

-- what takes the denominator q^n·n! to q^(n+k)·(n+k)!
unfoldable pub fill : ℕ → ℕ → ℕ → ℕ
fill q n zero = 1
fill q n (suc k) = fill q n k * (q * suc (n + k))

-- how often q^n·n! goes into q^M·M!
unfoldable pub share : ℕ → ℕ → ℕ → ℕ
share q M n = fill q n (M - n)

-- the numerator of x^n/n! over q^M·M!
unfoldable pub weight : ℕ → ℕ → ℕ → ℕ → ℕ
weight p q M n = p ^ n * share q M n
