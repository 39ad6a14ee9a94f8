-- What the call of `status_over` asks: the two survivals are at most 1.
use Rattle.number_exponential.specs.Units.{grid_of}
use Rattle.number_folds.proofs.laws.Bounds.{survival-at-most}
use Rattle.quote_two_lives.proofs.status_over.Goals as goal

pub status_chance-requires : goal.status_chance-requires
status_chance-requires c =
    let s = c.before in
    let p = s.before.requires in
    let g = grid_of s.before.args.grid in (
      rw s.survival_over-s.ensures (survival-at-most g g.positive p.0.each),
      rw c.survival_over-t.ensures (survival-at-most g g.positive p.1.each),
    )
