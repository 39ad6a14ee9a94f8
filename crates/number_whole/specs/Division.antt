-- Division of a whole number by a positive whole number, rounded to a whole number: down, toward minus infinity, for
-- the lower end of an interval, and up, toward plus infinity, for the upper end.
use Rattle.std.specs.Prelude.{ℕ, ◌+◌, ◌-◌, ◌/◌, ℤ, pos, negsuc, neg_ℤ}

-- z / m rounded down: the greatest q with q·m ≤ z. Below zero, −(a + 1) / m rounded down is −(a / m + 1).
unfoldable pub floor_div : ℤ → ℕ → ℤ
floor_div (pos a) m = pos (a / m)
floor_div (negsuc a) m = negsuc (a / m)

-- z / m rounded up: the least q with z ≤ q·m
unfoldable pub ceil_div : ℤ → ℕ → ℤ
ceil_div z m = neg_ℤ (floor_div (neg_ℤ z) m)

-- a / m rounded up, for natural numbers; rounded down it is a / m
unfoldable pub ceil_div_ℕ : ℕ → ℕ → ℕ
ceil_div_ℕ a m = (a + (m - 1)) / m
