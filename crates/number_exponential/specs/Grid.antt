-- The grid as one record: the unit in which ends are whole numbers, and the constants, term counts and cut-off of the
-- exponential and the logarithm on it. Every definition and law of the table takes a grid as a parameter.
use Rattle.std.specs.Prelude.{◌≡◌, List, ℕ, ◌*◌, ◌<◌}
use Rattle.number_fraction.specs.Ratio.{Ratio}

pub record Grid : Type 0 where
  -- units in 1
  pub unit : ℕ
  pub positive : 0 < unit
  -- units in 10^-9, the parameters' unit
  pub scale : ℕ
  pub scaled : unit ≡ scale * 1000000000
  -- steps of the constants in 1
  pub steps : ℕ
  -- for each step n the whole part of unit·e^−(n/steps)
  pub constants : List ℕ
  -- from this z on the exponential of −z is [0, 1], 1 a unit
  pub cutoff : ℕ
  -- the last term of the exponential's lower sum, and of its upper sum
  pub last_lower : ℕ
  pub last_upper : ℕ
  -- terms of the logarithm
  pub log_terms : ℕ

-- n units
unfoldable pub in_units : Grid → ℕ → Ratio
in_units g n = record { num = n; den = g.unit; positive = g.positive }
