-- "The weight of age y at age x is 10 + (y − 85)(x − 85), in 110ths": y from 80 to 90, x from 91 to 120.
use Rattle.std.specs.Prelude.{ℕ, ◌+◌, ℤ, pos, ◌+ℤ◌, ◌-ℤ◌, ◌*ℤ◌}

abbrev pub first_fitted : ℕ
first_fitted = 80

-- ages 80 to 90 are fitted
abbrev pub fitted : ℕ
fitted = 11

-- ages 91 to 120 are closed
abbrev pub first_closed : ℕ
first_closed = first_fitted + fitted

abbrev pub last_closed : ℕ
last_closed = 120

abbrev pub weight_unit : ℕ
weight_unit = 110

-- of the i-th fitted age at age x
unfoldable pub weight : ℕ → ℕ → ℤ
weight x i = pos 10 +ℤ (pos (first_fitted + i) -ℤ pos 85) *ℤ (pos x -ℤ pos 85)
