-- A fraction that is at least 0: a whole numerator over a positive whole denominator. Two fractions are ordered by
-- cross multiplication, and nothing is ever reduced. Every value from the first exponential on is of this kind.
use Rattle.std.specs.Prelude.{ℕ, ◌+◌, ◌-◌, ◌*◌, ◌≤◌, ◌<◌}
use Rattle.std.proofs.Common.{mul-pos, lit<}

pub record Ratio : Type 0 where
  pub num : ℕ
  pub den : ℕ
  pub positive : 0 < den

-- x is at most y
infix 50 ◌≤/◌
pub record ◌≤/◌ (x y : Ratio) : Type 0 where
  pub cross : x.num * y.den ≤ y.num * x.den

-- x is less than y
infix 50 ◌</◌
pub record ◌</◌ (x y : Ratio) : Type 0 where
  pub cross : x.num * y.den < y.num * x.den

-- the whole number n, over 1
unfoldable pub whole/ : ℕ → Ratio
whole/ n = record { num = n; den = 1; positive = lit< tt }

-- a/b + c/d = (a·d + c·b)/(b·d)
infixl 60 ◌+/◌
unfoldable pub ◌+/◌ : Ratio → Ratio → Ratio
x +/ y = record {
  num = x.num * y.den + y.num * x.den;
  den = x.den * y.den;
  positive = mul-pos x.positive y.positive;
}

-- a/b · c/d = (a·c)/(b·d)
infixl 70 ◌*/◌
unfoldable pub ◌*/◌ : Ratio → Ratio → Ratio
x */ y = record {
  num = x.num * y.num;
  den = x.den * y.den;
  positive = mul-pos x.positive y.positive;
}

-- a/b divided by the positive whole number k: a/(b·k)
unfoldable pub quotient/ : Ratio → (k : ℕ) → 0 < k → Ratio
quotient/ x k h = record {
  num = x.num;
  den = x.den * k;
  positive = mul-pos x.positive h;
}

-- 1 − a/b, for a/b at most 1: (b − a)/b
unfoldable pub complement : Ratio → Ratio
complement x = record { num = x.den - x.num; den = x.den; positive = x.positive }
