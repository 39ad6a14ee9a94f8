-- What the laws ask of a grid, as one record of facts: a grid's instance proves them by computation.
use Rattle.std.specs.Prelude.{◌≡◌, ℕ, suc, ◌*◌, ◌≤◌, ◌<◌, length}
use Rattle.number_taylor.specs.Taylor.{taylor_den, taylor_num, stretched_den, stretched_num}
use Rattle.number_taylor.specs.Alternating.{double}
use Rattle.number_exponential.specs.Grid.{Grid}
use Rattle.number_exponential.specs.Exponential.{step, constant_lower, constant_upper}

pub record Sound (g : Grid) : Type 0 where
  -- a step of the constants is a whole number of units
  pub steps-positive : 0 < g.steps
  pub whole-step : g.steps * step g ≡ g.unit
  -- the upper sum ends in an even term, the lower one in an odd term
  pub upper_pairs : ℕ
  pub upper-last : g.last_upper ≡ double upper_pairs
  pub lower_pairs : ℕ
  pub lower_last : g.last_lower ≡ suc (double lower_pairs)
  -- the order at which the constants and the cut-off are tested
  pub order : ℕ
  pub upper-order : double upper_pairs ≤ order
  -- a constant for each step below the cut-off, each within the bracket of e^−(n/steps)
  pub constants-all : length g.constants ≡ g.cutoff * g.steps
  pub constant-first : constant_lower g 0 ≡ g.unit
  pub constant-below : (n : ℕ) → n < length g.constants
      → constant_lower g n * stretched_num n g.steps order ≤ g.unit * stretched_den n g.steps order
  pub constant-above : (n : ℕ) → n < length g.constants
      → g.unit * taylor_den g.steps order ≤ constant_upper g n * taylor_num n g.steps order
  -- from the cut-off on e^−z is at most a unit
  pub cutoff-far : g.unit * taylor_den 1 order ≤ taylor_num g.cutoff 1 order
