-- What the code's contracts say beside the definitions: the factors that the code takes.
use Rattle.std.specs.Prelude.{List, ℕ, ◌≤◌, length}
use Rattle.number_exponential.specs.Grid.{Grid}
use Rattle.number_exponential.specs.declared.Ends.{Ends}
use Rattle.number_folds.specs.laws.Each.{Each}

-- both ends are at most m
pub record AtMost (m : ℕ) (e : Ends) : Type 0 where
  pub lower : e.lower ≤ m
  pub upper : e.upper ≤ m

-- room for the factors of the longest path: of a quote in 2014, "to the last factor in 2184"
abbrev pub most_factors : ℕ
most_factors = 171

-- factors are chances: no more of them than the longest path has, and no end above 1
pub record Chances (g : Grid) (factors : List Ends) : Type 0 where
  pub room : length factors ≤ most_factors
  pub each : Each (AtMost g.unit) factors
