-- The terms of the exponential with signs in turn, 1 − x + x²/2! − x³/3! + …, go by pairs of terms.
use Rattle.std.specs.Prelude.{ℕ, zero, suc}

-- 2h
unfoldable pub double : ℕ → ℕ
double zero = zero
double (suc h) = suc (suc (double h))
