-- `death_of` meets its contract: the ends of p are at most the unit.
use mathlib.Core.Path.{◌≡◌, ap}
use Prim.Native.Nat.{ℕ, ◌-◌}
use native.Mathlib.Omega.{arith}
use borrow.Author.Rules.{rules}
use Rattle.number_exponential.specs.Units.{grid_of}
use Rattle.number_exponential.specs.Grid.{Grid}
use Rattle.number_exponential.specs.declared.Ends.{Ends}
use Rattle.model_force.specs.Force.{death_of}
use Rattle.model_force.proofs.death_of.Goals as goal

-- 1 less the ends
less : (g : Grid) (p : Ends) {n : ℕ} → n ≡ g.unit → record { lower = n - p.upper; upper = n - p.lower } ≡ death_of g p
unfolding death_of
less g p e = ap (λ (n : ℕ). record { lower = n - p.upper; upper = n - p.lower }) e

pub returns : goal.returns
returns c = less _ _ c.before.before.unit_by-one.ensures

pub overflow_sub-result : goal.overflow_sub-result
overflow_sub-result c = omega (arith, c.before.unit_by-one.ensures)

pub overflow_sub-result-2 : goal.overflow_sub-result-2
overflow_sub-result-2 c = omega (arith, c.before.before.unit_by-one.ensures)
