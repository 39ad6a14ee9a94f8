-- Terms of the laws of fractions that are at least 0, and of brackets, which no definition uses: sameness, a reciprocal, a sum, and
-- a bracket that does not lie above another.
use Rattle.std.specs.Prelude.{◌<◌, List, [], ◌∷◌}
use Rattle.number_fraction.specs.Ratio.{Ratio, ◌≤/◌, whole/, ◌+/◌}
use Rattle.number_fraction.specs.Bracket.{Bracket}

-- x and y are the same number: each is at most the other
infix 50 ◌≈/◌
pub record ◌≈/◌ (x y : Ratio) : Type 0 where
  pub below : x ≤/ y
  pub above : y ≤/ x

-- 1 over a/b, for a positive: b/a
unfoldable pub reciprocal : (x : Ratio) → 0 < x.num → Ratio
reciprocal x h = record { num = x.den; den = x.num; positive = h }

-- the sum of a list
unfoldable pub sum/ : List Ratio → Ratio
sum/ [] = whole/ 0
sum/ (x ∷ xs) = x +/ sum/ xs

-- a does not lie wholly above b
pub record NotAbove (a b : Bracket) : Type 0 where
  pub reaches : a.least ≤/ b.most
