-- Two ends that are whole numbers of either sign, and the products of ends with a whole number: "the least and greatest real
-- product are taken first, then rounded."
use Rattle.std.specs.Prelude.{cond, ℕ, ℤ, ◌+ℤ◌, ◌*ℤ◌}
use Rattle.std.specs.Int.Signed.{non_neg}
use Rattle.number_whole.specs.declared.SignedEnds.{SignedEnds}
use Rattle.number_whole.specs.Division.{floor_div, ceil_div}

-- the least and the greatest product of c with a number between the ends: a negative c exchanges them
unfoldable pub least_product : ℤ → SignedEnds → ℤ
least_product c e = cond (non_neg c) (c *ℤ e.lower) (c *ℤ e.upper)

unfoldable pub greatest_product : ℤ → SignedEnds → ℤ
greatest_product c e = cond (non_neg c) (c *ℤ e.upper) (c *ℤ e.lower)

-- a quotient of each end, the lower one rounded down and the upper one up
unfoldable pub outward : ℤ → ℤ → ℕ → SignedEnds
outward least greatest m = record { lower = floor_div least m; upper = ceil_div greatest m }

-- c added to both ends, exactly
abbrev pub shifted : ℤ → SignedEnds → SignedEnds
shifted c e = record { lower = c +ℤ e.lower; upper = c +ℤ e.upper }
