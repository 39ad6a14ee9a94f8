-- The path of a quote: the cells, each an age and a year, whose p are its factors (paper 01, "The grid"), and a part of a year
-- after them (paper 02, E6). Years are counted from the start year. Only a path knows a cohort from a period.
use Rattle.std.specs.Prelude.{Bool, true, cond, ◌&&◌, List, [], ◌∷◌, map, ℕ, ◌+◌, min, eqb}
use Rattle.number_whole.specs.Listed.{listed}
use Rattle.number_fraction.specs.Ratio.{Ratio}
use Rattle.number_fraction.specs.Bracket.{Bracket}
use Rattle.number_exponential.specs.Grid.{Grid}
use Rattle.number_exponential.specs.declared.Ends.{Ends}
use Rattle.set_params.specs.declared.Params.{Params}
use Rattle.model_closure.specs.Weights.{last_closed}
use Rattle.model_mortality.specs.Cell.{whole_year, survival, needed_in_range}
use Rattle.model_mortality.specs.Exact.{order_survival}

-- a cell of the table, over a part of its year
pub record Place : Type 0 where
  pub age : ℕ
  pub year : ℕ
  pub part : Ratio

-- "Cohort factors are ages x + s in years t + s; period factors stay in t." Paper 02: "the probability of age 120, in the
-- year reached, for older ages".
unfoldable pub place_at : Bool → ℕ → ℕ → ℕ → Place
place_at cohort x n s = record { age = min (x + s) last_closed; year = cond cohort (n + s) n; part = whole_year }

-- the path over k years from age x in year n
unfoldable pub path_of : Bool → ℕ → ℕ → ℕ → List Place
path_of cohort x n k = listed (place_at cohort x n) 0 k

-- "the last part year", at age x in year n: "On 1 January .. the last cell isn't needed."
unfoldable pub part_year : ℕ → ℕ → Ratio → List Place
part_year x n part = cond (eqb part.num 0) [] (record { age = x; year = n; part = part } ∷ [])

-- its factors: p of each cell, on a grid and at order j
unfoldable pub factors : Grid → Params → List Place → List Ends
factors g p path = map (λ (c : Place). survival g p c.age c.year c.part) path

unfoldable pub order_factors : Params → List Place → ℕ → List Bracket
order_factors p path j = map (λ (c : Place). order_survival p c.age c.year c.part j) path

-- "A survival or expectancy needs those of all its factors; span 0 needs none."
unfoldable pub path_in_range : Grid → Params → List Place → Bool
path_in_range g p [] = true
path_in_range g p (c ∷ path) = needed_in_range g p c.age c.year && path_in_range g p path
