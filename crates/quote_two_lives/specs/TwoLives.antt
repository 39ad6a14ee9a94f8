-- Two lives (paper 02, E8), "on independent lives": the chance of a status after some years from the two lives' survivals over
-- them, and the expectancy of a status, over the factors of the two lives' paths, on a grid.
use Rattle.std.specs.Prelude.{List, ℕ, suc, length, take}
use Rattle.number_exponential.specs.Grid.{Grid}
use Rattle.number_exponential.specs.declared.Ends.{Ends}
use Rattle.number_folds.specs.Folds.{half, with_factor, survival_over, plus, sum_over}
use Rattle.model_force.specs.Force.{death_of}
use Rattle.quote_couple_kinds.specs.declared.Status.{Status}
use Rattle.quote_couple_kinds.specs.declared.Status.TheVariants.{JointLife, LastSurvivor}
use Rattle.quote_couple_kinds.specs.declared.CoupleKind.{CoupleKind}
use Rattle.quote_couple_kinds.specs.declared.CoupleKind.TheVariants as kind

-- "Both is the product; at least one is 1 less the product of the two death chances, outward on the grid."
unfoldable pub status_chance : Status → Grid → Ends → Ends → Ends
status_chance JointLife g s s' = with_factor g s s'
status_chance LastSurvivor g s s' = death_of g (with_factor g (death_of g s) (death_of g s'))

-- after as many years as there are factors
unfoldable pub status_over : Status → Grid → List Ends → List Ends → Ends
status_over status g ps ps' = status_chance status g (survival_over g ps) (survival_over g ps')

-- after k + 1 years
abbrev pub statuses_over : Status → Grid → List Ends → List Ends → ℕ → Ends
statuses_over status g ps ps' = λ k. status_over status g (take (suc k) ps) (take (suc k) ps')

-- "the expectancy of each of these two states": as a single life's, one half and the chances over k + 1 years, one k for each
-- factor
unfoldable pub status_expectancy_over : Status → Grid → List Ends → List Ends → Ends
status_expectancy_over status g ps ps' = plus (half g) (sum_over (statuses_over status g ps ps') (length ps))

-- what a kind takes of the two lives' factors
unfoldable pub couple_over : CoupleKind → Grid → List Ends → List Ends → Ends
couple_over kind.JointLife g ps ps' = status_over JointLife g ps ps'
couple_over kind.LastSurvivor g ps ps' = status_over LastSurvivor g ps ps'
couple_over kind.JointExpectancy g ps ps' = status_expectancy_over JointLife g ps ps'
couple_over kind.LastExpectancy g ps ps' = status_expectancy_over LastSurvivor g ps ps'
