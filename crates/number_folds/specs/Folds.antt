-- Survival and expectancy on a grid (paper 01, "The grid"), as folds over the factors of a path. A factor is the two ends
-- of one year's survival p, in units; of whom and in which year is not known here.
use Rattle.std.specs.Prelude.{List, [], ◌∷◌, ℕ, zero, suc, ◌+◌, ◌*◌, ◌/◌, length, take}
use Rattle.number_exponential.specs.Grid.{Grid}
use Rattle.number_exponential.specs.declared.Ends.{Ends}
use Rattle.number_exponential.specs.Outward.{outward_over}

-- 1, and one half of it
unfoldable pub one : Grid → Ends
one g = record { lower = g.unit; upper = g.unit }

unfoldable pub half : Grid → Ends
half g = record { lower = g.unit / 2; upper = g.unit / 2 }

-- "takes one p at a time, over 10^9, outward"
unfoldable pub with_factor : Grid → Ends → Ends → Ends
with_factor g s p = outward_over (s.lower * p.lower) (s.upper * p.upper) g.unit

-- the factors one after the other, from a survival s
unfoldable pub survival_from : Grid → Ends → List Ends → Ends
survival_from g s [] = s
survival_from g s (p ∷ ps) = survival_from g (with_factor g s p) ps

-- "Survival starts at 10^9 and takes one p at a time"
unfoldable pub survival_over : Grid → List Ends → Ends
survival_over g ps = survival_from g (one g) ps

-- the sum of two values, and of the first n of f: lower ends and upper ends
unfoldable pub plus : Ends → Ends → Ends
plus a b = record { lower = a.lower + b.lower; upper = a.upper + b.upper }

unfoldable pub sum_over : (ℕ → Ends) → ℕ → Ends
sum_over f zero = record { lower = 0; upper = 0 }
sum_over f (suc n) = plus (sum_over f n) (f n)

-- "survivals over k + 1 years"
abbrev pub survivals_over : Grid → List Ends → ℕ → Ends
survivals_over g ps = λ k. survival_over g (take (suc k) ps)

-- "Expectancy = 500,000,000 + survivals over k + 1 years": one k for each factor
unfoldable pub expectancy_over : Grid → List Ends → Ends
expectancy_over g ps = plus (half g) (sum_over (survivals_over g ps) (length ps))
