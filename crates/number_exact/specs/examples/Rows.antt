-- The figures of some ends, by computing the definition. The papers' own rows are those of the crate `edges`.
use Rattle.std.specs.Prelude.{◌≡◌, refl, ℕ}
use Rattle.number_exact.specs.declared.Figure.{Figure}
use Rattle.number_exact.specs.declared.Figure.TheVariants.{Printed, Open}
use Rattle.number_exact.specs.Figure.{probability_step, expectancy_step, half_up, figure_of}

-- the ends l and u have the figure f
abbrev pub Row : ℕ → ℕ → ℕ → Figure → Type 0
Row step l u f = figure_of step (record { lower = l; upper = u }) ≡ f

-- a half step is rounded up; 0.00000; 1.00000
pub probabilities : Row probability_step 5000 5000 (Printed 1)
    × Row probability_step 0 4999 (Printed 0)
    × Row probability_step 1000000000 1000000000 (Printed 100000)
unfolding half_up figure_of
probabilities = (refl, refl, refl)

-- 1.20, and both sides of its lower half-edge
pub expectancies : Row expectancy_step 1195000000 1204999999 (Printed 120)
    × Row expectancy_step 1194999999 1195000000 Open
unfolding half_up figure_of
expectancies = (refl, refl)
