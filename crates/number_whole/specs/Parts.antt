-- How far a whole number lies below zero: −z where z is negative, else 0.
use Rattle.std.specs.Prelude.{ℕ, suc, ℤ, pos, negsuc}

abbrev pub below : ℤ → ℕ
below (pos n) = 0
below (negsuc n) = suc n
