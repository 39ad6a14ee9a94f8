-- "Each end is rounded half up; the figure is printed when both give one step, else it is open."
use Rattle.std.specs.Prelude.{Bool, true, false, cond, ℕ, ◌+◌, ◌*◌, ◌/◌, eqb}
use Rattle.number_exponential.specs.declared.Ends.{Ends}
use Rattle.number_exact.specs.declared.Figure.{Figure}
use Rattle.number_exact.specs.declared.Figure.TheVariants.{Printed, Open}

-- in units of 10^-9: "Steps are 0.00001 for probabilities"; "Boards now quote expectancies to 0.01" (E11); prices keep their 0.1
abbrev pub probability_step : ℕ
probability_step = 10000

abbrev pub expectancy_step : ℕ
expectancy_step = 10000000

abbrev pub price_step : ℕ
price_step = 100000000

-- an end of e units in steps, e/step + 1/2 rounded down
unfoldable pub half_up : ℕ → ℕ → ℕ
half_up step e = (2 * e + step) / (2 * step)

-- the figure of two ends
unfoldable pub figure_of : ℕ → Ends → Figure
figure_of step ends =
    cond (eqb (half_up step ends.lower) (half_up step ends.upper)) (Printed (half_up step ends.lower)) Open

unfoldable pub is_open : Figure → Bool
is_open (Printed n) = false
is_open Open = true
