-- `kappa_at` meets its contract. The loop's invariant: the ends are those of kappa in the year.
use mathlib.Core.Path.{◌≡◌}
use native.Mathlib.Numerals.{add-one}
use native.Mathlib.Omega.{arith}
use mir.Facts.{to_z-of_z}
use Rattle.number_whole.proofs.laws.Bound.{bits, fits}
use Rattle.number_whole.proofs.Signed.{read, both_ends}
use Rattle.number_exponential.specs.Units.{grid_of}
use Rattle.number_exponential.proofs.laws.Scales.{under-scaled}
use Rattle.set_series.specs.Series.{in_grid, kappa_in}
use Rattle.set_series.specs.code.Within.{number_limit}
use Rattle.set_series.proofs.laws.BoundLaws.{in_grid-under}
use Rattle.set_series.proofs.kappa_at.Goals as goal

pub in_grid-first-requires : goal.in_grid-first-requires
in_grid-first-requires c = rw (to_z-of_z c.ranges.start) c.requires.1

-- kappa in the start year, as it is read
first : (c : goal.After-in_grid-first) → let s = c.before in
    bits c.in_grid-first.result ≡ in_grid (grid_of s.args.grid) (bits s.args.start)
first c =
    let s = c.before in
    let u = s.args.grid in
    read c.in_grid-first.ensures
    (rw (to_z-of_z s.ranges.start) (fits (under-scaled u number_limit (in_grid-under (grid_of u) s.requires.1)) tt))

pub loop-year-init : goal.loop-year-init
unfolding kappa_in
loop-year-init c = both_ends (first c) (first c)

pub kappa_step-e-requires : goal.kappa_step-e-requires
kappa_step-e-requires c =
    let l = c.before in
    let s = l.before.before in
    (s.requires.0, rw (l.loop-year.invariant, to_z-of_z s.ranges.start) (s.requires.2.years l.loop-year._year (omega arith)))

pub loop-year-preserved : goal.loop-year-preserved
unfolding kappa_in
loop-year-preserved c =
    let l = c.before.before in
    rw (c.kappa_step-e.ensures, l.loop-year.invariant, add-one l.loop-year._year)

pub returns : goal.returns
returns c =
    let l = c.before in
    let s = l.before.before in
    let e : l.loop-year._year ≡ s.args.n = omega arith in
    rw (to_z-of_z s.ranges.start, e) at l.loop-year.invariant
