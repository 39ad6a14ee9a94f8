-- Between two fractions there is room for a part of 1.
use Rattle.std.specs.Prelude.{ℕ, ◌+◌, ◌*◌, ◌≤◌, ◌<◌}
use Rattle.std.proofs.Common.{mul-le-mul_right, arith}
use Rattle.number_fraction.specs.Ratio.{Ratio, ◌</◌, ◌+/◌, whole/, quotient/}

-- 1/(d·b + 1), where b and d are their denominators
abbrev pub finer : Ratio → Ratio → ℕ
finer x y = y.den * x.den + 1

pub finer-positive : (x y : Ratio) → 0 < finer x y
finer-positive x y = omega arith

abbrev pub room : Ratio → Ratio → Ratio
room x y = quotient/ (whole/ 1) (finer x y) (finer-positive x y)

room-algebra : (a b c d : ℕ) → a * d < c * b → (a * (1 * (d * b + 1)) + 1 * b) * d < c * (b * (1 * (d * b + 1)))
room-algebra a b c d h = let k : a * d + 1 ≤ c * b = omega arith in omega (arith, mul-le-mul_right (d * b + 1) k)

pub room-between : {x y : Ratio} → x </ y → x +/ room x y </ y
unfolding ◌+/◌ quotient/ whole/
room-between {x} {y} h = record { cross = room-algebra x.num x.den y.num y.den h.cross }
