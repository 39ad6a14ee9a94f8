-- Signed ends in units as fractions, and what it means that they overlap an order's interval, or two such intervals each other.
use Rattle.std.specs.Prelude.{ℕ, ◌<◌, ℤ}
use Rattle.number_whole.specs.declared.SignedEnds.{SignedEnds}
use Rattle.number_fraction.specs.Ratio.{Ratio, ◌≤/◌}
use Rattle.number_fraction.specs.Fraction.{Fraction, ◌≤ℚ◌, absolute}
use Rattle.number_exponential.specs.Grid.{Grid}
use Rattle.model_logistic.specs.Units.{Interval}

-- a/d
abbrev pub over : (d : ℕ) → 0 < d → ℤ → Fraction
over d p a = record { num = a; den = d; positive = p }

-- n units, of either sign
unfoldable pub in_units_ℚ : Grid → ℤ → Fraction
in_units_ℚ g n = record { num = n; den = g.unit; positive = g.positive }

-- neither interval lies wholly beyond the other
pub record SignedOverlap (g : Grid) (ends : SignedEnds) (interval : Interval) : Type 0 where
  pub below : in_units_ℚ g ends.lower ≤ℚ interval.most
  pub above : interval.least ≤ℚ in_units_ℚ g ends.upper

-- and so of two intervals
pub record Meet (I J : Interval) : Type 0 where
  pub below : I.least ≤ℚ J.most
  pub above : J.least ≤ℚ I.most

-- both ends of an interval lie within B of 0
pub record Bounded (B : Ratio) (interval : Interval) : Type 0 where
  pub low : absolute interval.least ≤/ B
  pub high : absolute interval.most ≤/ B
