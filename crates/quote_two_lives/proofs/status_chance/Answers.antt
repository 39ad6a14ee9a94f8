-- What the calls of `status_chance` ask: the death chances and their product are at most 1.
use mathlib.Core.Path.{◌≡◌}
use Rattle.number_exponential.specs.Grid.{Grid}
use Rattle.number_exponential.specs.Units.{grid_of}
use Rattle.number_exponential.specs.declared.Ends.{Ends}
use Rattle.number_folds.specs.code.Code.{AtMost}
use Rattle.number_folds.proofs.laws.Bounds.{with-factor-at-most}
use Rattle.model_force.specs.Force.{death_of}
use Rattle.quote_two_lives.proofs.laws.Sizes.{death-at-most}
use Rattle.quote_two_lives.proofs.status_chance.Goals as goal

-- the two death chances
dead : (g : Grid) (e : Ends) {r : Ends} → r ≡ death_of g e → AtMost g.unit r
dead g e d = rw d (death-at-most g e)

both-dead : (c : goal.After-death_of-in-LastSurvivor) → let g = grid_of c.args.grid in
    AtMost g.unit c.death_of.result × AtMost g.unit c.death_of-in-LastSurvivor.result
both-dead c = (dead _ _ c.death_of.ensures, dead _ _ c.death_of-in-LastSurvivor.ensures)

pub death_of-requires-in-LastSurvivor-2 : goal.death_of-requires-in-LastSurvivor-2
death_of-requires-in-LastSurvivor-2 c =
    let b = both-dead c.before in
    let g = grid_of c.args.grid in
    let k : AtMost g.unit c.with_factor-in-LastSurvivor.result =
    rw c.with_factor-in-LastSurvivor.ensures (with-factor-at-most g g.positive b.0 b.1) in
    (k.lower, k.upper)

pub with_factor-requires-in-LastSurvivor : goal.with_factor-requires-in-LastSurvivor
with_factor-requires-in-LastSurvivor c = both-dead c
