-- Terms of the laws of signed fractions: strict order, sameness, a difference, a product, a negative, a quotient and a sum, which
-- no definition uses.
use Rattle.std.specs.Prelude.{◌*◌, ◌<◌, List, [], ◌∷◌, pos, neg_ℤ, ◌-ℤ◌, ◌*ℤ◌, ◌<ℤ◌}
use Rattle.std.proofs.Common.{mul-pos}
use Rattle.number_fraction.specs.Ratio.{Ratio}
use Rattle.number_fraction.specs.Fraction.{Fraction, ◌≤ℚ◌, wholeℚ, ◌+ℚ◌}

-- x is less than y
infix 50 ◌<ℚ◌
pub record ◌<ℚ◌ (x y : Fraction) : Type 0 where
  pub cross : (x.num *ℤ pos y.den) <ℤ (y.num *ℤ pos x.den)

-- x and y are the same number: each is at most the other
infix 50 ◌≈ℚ◌
pub record ◌≈ℚ◌ (x y : Fraction) : Type 0 where
  pub below : x ≤ℚ y
  pub above : y ≤ℚ x

-- a/b − c/d = (a·d − c·b)/(b·d)
infixl 60 ◌-ℚ◌
unfoldable pub ◌-ℚ◌ : Fraction → Fraction → Fraction
x -ℚ y = record {
  num = x.num *ℤ pos y.den -ℤ y.num *ℤ pos x.den;
  den = x.den * y.den;
  positive = mul-pos x.positive y.positive;
}

-- a/b · c/d = (a·c)/(b·d)
infixl 70 ◌*ℚ◌
unfoldable pub ◌*ℚ◌ : Fraction → Fraction → Fraction
x *ℚ y = record {
  num = x.num *ℤ y.num;
  den = x.den * y.den;
  positive = mul-pos x.positive y.positive;
}

-- −(a/b) = (−a)/b
unfoldable pub negℚ : Fraction → Fraction
negℚ x = record { num = neg_ℤ x.num; den = x.den; positive = x.positive }

-- a/b divided by c/d, for c positive: (a·d)/(b·c)
unfoldable pub divideℚ : Fraction → (y : Ratio) → 0 < y.num → Fraction
divideℚ x y h = record {
  num = x.num *ℤ pos y.den;
  den = x.den * y.num;
  positive = mul-pos x.positive h;
}

-- the sum of a list
unfoldable pub sumℚ : List Fraction → Fraction
sumℚ [] = wholeℚ (pos 0)
sumℚ (x ∷ xs) = x +ℚ sumℚ xs
