-- A quote's ends in the finer of two units: the same numbers as fractions, so that they hold an exact value as its own do.
use Rattle.std.specs.Prelude.{◌≡◌, refl, ℕ, ◌*◌, ◌/◌}
use Rattle.std.proofs.Common.{arith}
use Rattle.number_fraction.specs.Ratio.{◌≤/◌}
use Rattle.number_exponential.specs.Grid.{Grid, in_units}
use Rattle.number_exponential.specs.declared.GridUnit.{GridUnit}
use Rattle.number_exponential.specs.declared.GridUnit.TheVariants.{Coarse, Fine}
use Rattle.number_exponential.specs.Units.{grid_of}
use Rattle.number_exact.specs.Value.{Exact}
use Rattle.number_exact.proofs.laws.ValueLaws.{at-least-weaken, at-most-weaken}
use Rattle.quote_along.specs.declared.Quote.{Quote}
use Rattle.quote_compare.specs.Compare.{finer, ends_in, Held}

-- how many of the first unit make one of the second
abbrev pub times : GridUnit → GridUnit → ℕ
times u v = (grid_of u).scale / (grid_of v).scale

-- the first is no coarser than the second: a whole number of it makes one of the second
pub record NoCoarser (u v : GridUnit) : Type 0 where
  pub whole : times u v * (grid_of v).unit ≡ (grid_of u).unit

-- the finer of two is no coarser than either
pub finer-first : (v w : GridUnit) → NoCoarser (finer v w) v
unfolding finer grid_of
finer-first Coarse Coarse = record { whole = refl }
finer-first Coarse Fine = record { whole = refl }
finer-first Fine w = record { whole = refl }

pub finer-second : (v w : GridUnit) → NoCoarser (finer v w) w
unfolding finer grid_of
finer-second Coarse Coarse = record { whole = refl }
finer-second Coarse Fine = record { whole = refl }
finer-second Fine Coarse = record { whole = refl }
finer-second Fine Fine = record { whole = refl }

-- n units of the one grid are n·k of the other
module _ (g h : Grid) (k n : ℕ) (e : k * g.unit ≡ h.unit) where
  same_units : n * h.unit ≡ n * k * g.unit
  same_units = rw (← e) (omega arith)

  units-below : in_units h (n * k) ≤/ in_units g n
  unfolding in_units
  units-below = record { cross = omega (arith, same_units) }

  units-above : in_units g n ≤/ in_units h (n * k)
  unfolding in_units
  units-above = record { cross = omega (arith, same_units) }

pub held_in : (u : GridUnit) (q : Quote) → NoCoarser u q.unit → {x : Exact}
    → Held (grid_of q.unit) (record { lower = q.lower; upper = q.upper }) x → Held (grid_of u) (ends_in u q) x
unfolding ends_in
held_in u q f h =
    let g = grid_of q.unit in
    let k = times u q.unit in
    record {
      at_least = at-least-weaken (units-below g (grid_of u) k q.lower f.whole) h.at_least;
      at_most = at-most-weaken (units-above g (grid_of u) k q.upper f.whole) h.at_most;
    }
