-- `in_range` meets its contract: the test of the lower end, and then that of the upper one.
use borrow.Author.Rules.{rules}
use mathlib.Core.Path.{◌≡◌, ap, sym, ◌∙◌}
use mathlib.Core.Bool.{Bool, ◌&&◌}
use lib.IntN.{ℤ}
use lib.Signed.{le_z}
use mir.Facts.{to_z-of_z}
use Rattle.number_whole.specs.code.Sizes.{Under}
use Rattle.number_whole.proofs.laws.Bound.{bits, fits, under-lit}
use Rattle.number_whole.proofs.Signed.{EndsFit, read}
use Rattle.number_exponential.specs.declared.GridUnit.{GridUnit}
use Rattle.number_exponential.specs.Units.{grid_of}
use Rattle.number_exponential.proofs.laws.Scales.{under-scaled}
use Rattle.set_series.specs.Series.{in_grid}
use Rattle.set_series.specs.code.Within.{number_limit}
use Rattle.set_series.proofs.laws.BoundLaws.{in_grid-under}
use Rattle.model_log_force.specs.LogForce.{lowest_force, highest_force, in_range}
use Rattle.model_log_force.proofs.in_range.Goals as goal
use Rattle.model_log_force.proofs.in_range.Goals.{After-in_grid-highest}

ends-fit : (s : goal.Start) → EndsFit s.args.m
ends-fit s = record { lower = search rules; upper = search rules }

-- a bound of the range in the grid's units, as it is read
bound : (u : GridUnit) {r z : ℤ} → Under z number_limit → r ≡ in_grid (grid_of u) z → bits r ≡ in_grid (grid_of u) z
bound u k e = read e (fits (under-scaled u number_limit (in_grid-under (grid_of u) k)) tt)

lowest : (c : After-in_grid-highest) → let s = c.before.before in bits c.before.in_grid-lowest.result ≡ in_grid (grid_of s.args.grid) lowest_force
lowest c = bound c.before.before.args.grid (under-lit tt) c.before.in_grid-lowest.ensures

highest : (c : After-in_grid-highest) → let s = c.before.before in bits c.in_grid-highest.result ≡ in_grid (grid_of s.args.grid) highest_force
highest c = bound c.before.before.args.grid (under-lit tt) c.in_grid-highest.ensures

-- the range, by the test of the lower end as the code has it
tested : (c : After-in_grid-highest) {b : Bool} → let s = c.before.before in le_z (bits c.before.in_grid-lowest.result) (bits s.args.m.lower) ≡ b
    → in_range (grid_of s.args.grid) s.args.m ≡ b && le_z s.args.m.upper (in_grid (grid_of s.args.grid) highest_force)
unfolding in_range
tested c e = rw (← e, lowest c, to_z-of_z (ends-fit c.before.before).lower)

pub returns-then-lowest-m : goal.returns-then-lowest-m
returns-then-lowest-m c =
    let g = c.before.before.before.before.before in
    rw (tested g c.before.before.if-lowest-m.true, highest g, to_z-of_z (ends-fit g.before.before).upper)

pub returns-else-lowest-m : goal.returns-else-lowest-m
returns-else-lowest-m c = c.if-lowest-m.false ∙ sym (tested c.before.before.before c.if-lowest-m.false)

pub in_grid-lowest-requires : goal.in_grid-lowest-requires
in_grid-lowest-requires c = under-lit tt

pub in_grid-highest-requires : goal.in_grid-highest-requires
in_grid-highest-requires c = under-lit tt
