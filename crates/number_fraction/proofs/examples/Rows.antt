-- Rows that are proved by computing.
use Rattle.std.specs.Prelude.{ℕ, ◌<◌, T, ltb, ℤ, pos, negsuc}
use Rattle.std.proofs.Common.{lit<, lit≤}
use Rattle.std.specs.Int.Signed.{le_z_yes}
use Rattle.number_fraction.specs.Ratio.{Ratio, ◌≤/◌, ◌+/◌, complement}
use Rattle.number_fraction.proofs.laws.RatioTerms.{◌≈/◌, reciprocal}
use Rattle.number_fraction.specs.Fraction.{Fraction, ◌≤ℚ◌}
use Rattle.number_fraction.proofs.laws.FractionTerms.{◌≈ℚ◌, ◌-ℚ◌}

-- a/b, for positive b
ratio : (a b : ℕ) → T (ltb 0 b) → Ratio
ratio a b p = record { num = a; den = b; positive = lit< p }

fraction : (a : ℤ) (b : ℕ) → T (ltb 0 b) → Fraction
fraction a b p = record { num = a; den = b; positive = lit< p }

-- 1/2 + 1/3 = 5/6
half-and-third : ratio 1 2 tt +/ ratio 1 3 tt ≈/ ratio 5 6 tt
unfolding ratio ◌+/◌
half-and-third = record { below = record { cross = lit≤ tt }; above = record { cross = lit≤ tt } }

-- −1/2 ≤ 1/3
minus-half : fraction (negsuc 0) 2 tt ≤ℚ fraction (pos 1) 3 tt
unfolding fraction
minus-half = record { cross = le_z_yes tt }

-- 1/3 − 1/2 = −1/6
third-less-half : fraction (pos 1) 3 tt -ℚ fraction (pos 1) 2 tt ≈ℚ fraction (negsuc 0) 6 tt
unfolding fraction ◌-ℚ◌
third-less-half = record { below = record { cross = le_z_yes tt }; above = record { cross = le_z_yes tt } }

-- 1 over 2/3 is 3/2, which is at least 4/3
reciprocal-row : (p : 0 < (ratio 2 3 tt).num) → ratio 4 3 tt ≤/ reciprocal (ratio 2 3 tt) p
unfolding ratio reciprocal
reciprocal-row p = record { cross = lit≤ tt }

-- 1 − 2/5 = 3/5
complement-row : complement (ratio 2 5 tt) ≈/ ratio 3 5 tt
unfolding ratio complement
complement-row = record { below = record { cross = lit≤ tt }; above = record { cross = lit≤ tt } }
