-- `log_force` meets its contract: for a cell in its limits nothing overflows, and the ends are those of the definition.
use borrow.Author.Rules.{rules}
use mathlib.Core.Path.{◌≡◌}
use lib.IntN.{◌+ℤ◌, ◌*ℤ◌}
use mir.Syntax.{w64}
use mir.Val.{SFits}
use Rattle.number_whole.proofs.laws.Bound.{bits, back}
use Rattle.number_whole.proofs.Signed.{both_ends}
use Rattle.number_exponential.specs.Units.{grid_of}
use Rattle.set_series.specs.Series.{in_grid}
use Rattle.set_series.proofs.laws.Mixed.{end_by}
use Rattle.set_series.proofs.Chosen.{chosen-under, chosen-read}
use Rattle.model_log_force.specs.LogForce.{cell_force}
use Rattle.model_log_force.proofs.Cell.{number-under, number, fixed, trend, beta-under, within, lower-end, upper-end}
use Rattle.model_log_force.proofs.log_force.Goals as goal

pub overflow_add-age : goal.overflow_add-age
overflow_add-age c = let s = c.before.before in (number s.args.grid s.requires).0

pub in_grid-fixed-requires : goal.in_grid-fixed-requires
in_grid-fixed-requires c = let s = c.before.before in rw (number s.args.grid s.requires).1 (number-under s.args.grid s.requires)

pub overflow_mul-trend : goal.overflow_mul-trend
overflow_mul-trend c = let s = c.before.before.before.before.before in (trend s.args.grid s.requires).0

-- A + alpha, and the two chosen ends, as they are read
module _ (c : goal.After-end_by-high) where
  added : bits c.in_grid-fixed.result ≡ in_grid (grid_of c.args.grid) (c.args.age.level +ℤ c.args.age.alpha)
  added =
      fixed c.args.grid c.requires (number c.args.grid c.requires).1 c.in_grid-fixed.ensures

  low : bits c.end_by-low.result ≡ end_by c.args.age.beta c.args.kappas.lower c.args.kappas.upper
  low =
      let l = c.requires in
      chosen-read c.args.grid (beta-under c.args.grid l) l.kappas.low l.kappas.high c.end_by-low.ensures

  high : bits c.end_by-high.result ≡ end_by c.args.age.beta c.args.kappas.upper c.args.kappas.lower
  high =
      let l = c.requires in
      chosen-read c.args.grid (beta-under c.args.grid l) l.kappas.high l.kappas.low c.end_by-high.ensures

pub mixed_over-requires : goal.mixed_over-requires
mixed_over-requires c =
    let u = c.args.grid in
    let l = c.requires in
    rw ((trend u l).1, back (beta-under u l) tt, low c) (within u l (chosen-under u (beta-under u l) l.kappas.low l.kappas.high))

pub mixed_over-requires-2 : goal.mixed_over-requires-2
mixed_over-requires-2 m =
    let c = m.before in
    let u = c.args.grid in
    let l = c.requires in
    rw ((trend u l).1, back (beta-under u l) tt, high c) (within u l (chosen-under u (beta-under u l) l.kappas.high l.kappas.low))

-- the two ends
lower : (m : goal.After-mixed_over) → let c = m.before in
    let r = bits c.in_grid-fixed.result +ℤ bits m.mixed_over.result in
    SFits w64 r × (bits r ≡ (cell_force (grid_of c.args.grid) c.args.age c.args.period c.args.kappas).lower)
lower m =
    let c = m.before in
    let u = c.args.grid in
    let l = c.requires in
    lower-end u l (added c) (rw ((trend u l).1, back (beta-under u l) tt, low c) at m.mixed_over.ensures)

upper : (n : goal.After-mixed_over-2) → let c = n.before.before in
    let r = bits c.in_grid-fixed.result +ℤ bits n.mixed_over-2.result in
    SFits w64 r × (bits r ≡ (cell_force (grid_of c.args.grid) c.args.age c.args.period c.args.kappas).upper)
upper n =
    let c = n.before.before in
    let u = c.args.grid in
    let l = c.requires in
    upper-end u l (added c) (rw ((trend u l).1, back (beta-under u l) tt, high c) at n.mixed_over-2.ensures)

pub overflow_add-lower : goal.overflow_add-lower
overflow_add-lower c = (lower c).0

pub overflow_add-upper : goal.overflow_add-upper
overflow_add-upper c = (upper c).0

pub returns : goal.returns
returns c = both_ends (lower c.before).1 (upper c).1
