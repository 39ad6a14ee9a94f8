-- A signed fraction: a whole numerator over a positive whole denominator. Two fractions are ordered by cross
-- multiplication, and nothing is ever reduced.
use Rattle.std.specs.Prelude.{ℕ, ◌*◌, ◌<◌, ℤ, pos, nat_abs, ◌+ℤ◌, ◌*ℤ◌, ◌≤ℤ◌}
use Rattle.std.proofs.Common.{mul-pos, lit<}
use Rattle.number_fraction.specs.Ratio.{Ratio}

pub record Fraction : Type 0 where
  pub num : ℤ
  pub den : ℕ
  pub positive : 0 < den

-- x is at most y
infix 50 ◌≤ℚ◌
pub record ◌≤ℚ◌ (x y : Fraction) : Type 0 where
  pub cross : (x.num *ℤ pos y.den) ≤ℤ (y.num *ℤ pos x.den)

-- the whole number z, over 1
unfoldable pub wholeℚ : ℤ → Fraction
wholeℚ z = record { num = z; den = 1; positive = lit< tt }

-- a fraction that is at least 0, as a signed one
unfoldable pub signed : Ratio → Fraction
signed x = record { num = pos x.num; den = x.den; positive = x.positive }

-- the distance of a/b from 0: |a|/b
unfoldable pub absolute : Fraction → Ratio
absolute x = record { num = nat_abs x.num; den = x.den; positive = x.positive }

-- a/b + c/d = (a·d + c·b)/(b·d)
infixl 60 ◌+ℚ◌
unfoldable pub ◌+ℚ◌ : Fraction → Fraction → Fraction
x +ℚ y = record {
  num = x.num *ℤ pos y.den +ℤ y.num *ℤ pos x.den;
  den = x.den * y.den;
  positive = mul-pos x.positive y.positive;
}

-- the whole number k times a/b: (k·a)/b
unfoldable pub scaleℚ : ℤ → Fraction → Fraction
scaleℚ k x = record { num = k *ℤ x.num; den = x.den; positive = x.positive }

-- a/b divided by the positive whole number k: a/(b·k)
unfoldable pub quotientℚ : Fraction → (k : ℕ) → 0 < k → Fraction
quotientℚ x k h = record {
  num = x.num;
  den = x.den * k;
  positive = mul-pos x.positive h;
}
