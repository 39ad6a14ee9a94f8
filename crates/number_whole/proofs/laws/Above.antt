-- How far a whole number lies above zero: z where z is positive, else 0. It is this less how far it lies below, and one of the two is 0.
use Rattle.std.specs.Prelude.{ℕ, ℤ, pos, negsuc}

abbrev pub above : ℤ → ℕ
above (pos n) = n
above (negsuc n) = 0
