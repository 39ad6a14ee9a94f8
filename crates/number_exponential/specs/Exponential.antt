-- The exponential of −z on a grid (paper 01, "The grid", and paper 02, E4), z ≥ 0 in units, with the grid's own numbers for
-- the paper's: from the cut-off on it is [0, 1]; below, z = n·step + f. T0 is the unit exactly, and Tk = T(k−1)·f/(k·unit),
-- outward. "Lower end: even terms' lower ends less odd terms' upper ends", k to the last lower term. "Upper end: even uppers
-- less odd lowers", k to the last upper term, capped at the unit. Then "multiply by the constant" for e to the −(n/steps),
-- over the unit, outward.
use Rattle.std.specs.Prelude.{cond, ℕ, zero, suc, ◌+◌, ◌-◌, ◌*◌, ◌/◌, ◌%◌, min, ltb, get_or}
use Rattle.number_whole.specs.Division.{ceil_div_ℕ}
use Rattle.number_taylor.specs.Alternating.{double}
use Rattle.number_exponential.specs.Grid.{Grid}
use Rattle.number_exponential.specs.declared.Ends.{Ends}

-- units in a step of the constants, and the cut-off in units
abbrev pub step : Grid → ℕ
step g = g.unit / g.steps

abbrev pub cutoff_units : Grid → ℕ
cutoff_units g = g.cutoff * g.unit

-- T·f/(k·unit), rounded down and up
unfoldable pub next_lower : Grid → ℕ → ℕ → ℕ → ℕ
next_lower g t f k = t * f / (k * g.unit)

unfoldable pub next_upper : Grid → ℕ → ℕ → ℕ → ℕ
next_upper g t f k = ceil_div_ℕ (t * f) (k * g.unit)

-- Tk's lower and upper ends
unfoldable pub term_lower : Grid → ℕ → ℕ → ℕ
term_lower g f zero = g.unit
term_lower g f (suc k) = next_lower g (term_lower g f k) f (suc k)

unfoldable pub term_upper : Grid → ℕ → ℕ → ℕ
term_upper g f zero = g.unit
term_upper g f (suc k) = next_upper g (term_upper g f k) f (suc k)

-- the sum of the first n of a
unfoldable pub total : (ℕ → ℕ) → ℕ → ℕ
total a zero = 0
total a (suc n) = total a n + a n

-- a0 + a2 + a4 .. to the last even place that is not past m
unfoldable pub evens : (ℕ → ℕ) → ℕ → ℕ
evens a m = total (λ (i : ℕ). a (double i)) (suc (m / 2))

-- a1 + a3 + a5 .. to the last odd place that is not past m
unfoldable pub odds : (ℕ → ℕ) → ℕ → ℕ
odds a m = total (λ (i : ℕ). a (suc (double i))) (suc m / 2)

-- even terms' lower ends less odd terms' upper ends
unfoldable pub sum_lower : Grid → ℕ → ℕ
sum_lower g f = evens (term_lower g f) g.last_lower - odds (term_upper g f) g.last_lower

-- even uppers less odd lowers, capped
unfoldable pub sum_upper : Grid → ℕ → ℕ
sum_upper g f = min g.unit (evens (term_upper g f) g.last_upper - odds (term_lower g f) g.last_upper)

-- that constant is the unit for n = 0; else its lower end is the whole part of unit·e^−(n/steps), "and its upper end one
-- more."
unfoldable pub constant_lower : Grid → ℕ → ℕ
constant_lower g n = get_or g.constants n 0

unfoldable pub constant_upper : Grid → ℕ → ℕ
constant_upper g zero = g.unit
constant_upper g (suc n) = suc (constant_lower g (suc n))

-- the two ends of the exponential of −z
unfoldable pub exp_lower : Grid → ℕ → ℕ
exp_lower g z =
    cond (ltb z (cutoff_units g)) (sum_lower g (z % step g) * constant_lower g (z / step g) / g.unit) 0

unfoldable pub exp_upper : Grid → ℕ → ℕ
exp_upper g z =
    cond (ltb z (cutoff_units g)) (ceil_div_ℕ (sum_upper g (z % step g) * constant_upper g (z / step g)) g.unit) 1

-- "For a z with two ends, the larger z gives the lower end."
unfoldable pub exp_between : Grid → Ends → Ends
exp_between g z = record { lower = exp_lower g z.upper; upper = exp_upper g z.lower }
