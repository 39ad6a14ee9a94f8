-- `kappa_in_limits` meets its contract. The loop's invariant: the ends are those of kappa in the year, and the years before are in
-- limits.
use mathlib.Core.Bool.{not}
use mathlib.Core.Path.{◌≡◌, refl, ap, sym, ◌∙◌}
use mathlib.Core.Bool.{Bool}
use Prim.Native.Nat.{ℕ, suc, ◌<◌}
use native.Mathlib.Numerals.{add-one}
use native.Mathlib.Omega.{arith}
use borrow.Author.Tests.{not-true, not-false}
use lib.IntN.{ℤ}
use mir.Facts.{to_z-of_z}
use Rattle.number_whole.proofs.Signed.{both_ends}
use Rattle.number_exponential.specs.Units.{billionths, grid_of}
use Rattle.set_params.specs.declared.Dynamics.{Dynamics}
use Rattle.set_params.specs.Limits.{last_years}
use Rattle.set_series.specs.Series.{kappa_in}
use Rattle.set_series.proofs.laws.Finer.{in_grid-coarse}
use Rattle.set_limits.specs.InLimits.{all_below, ends_in_limits, kappa_in_limits}
use Rattle.set_limits.specs.laws.LimitsLaws.{all-out, ends-within}
use Rattle.set_limits.proofs.kappa_in_limits.Goals as goal
use Rattle.set_limits.proofs.kappa_in_limits.Goals.{After-ends_in_limits}

-- kappa in a year is in limits
abbrev year_test : Dynamics → ℤ → ℕ → Bool
year_test d k n = ends_in_limits (kappa_in billionths d k n)

pub loop-year-init : goal.loop-year-init
unfolding kappa_in all_below
loop-year-init c = (both_ends (sym (in_grid-coarse _)) (sym (in_grid-coarse _)), refl)

-- the year's test is that of its kappa
year-tested : (c : After-ends_in_limits) → let l = c.before.before in
    c.ends_in_limits.result ≡ year_test l.before.args.d l.before.args.start l.loop-year._year
year-tested c =
    let l = c.before.before in
    rw (← to_z-of_z l.before.ranges.start) (c.ends_in_limits.ensures ∙ ap ends_in_limits l.loop-year.invariant.0)

pub returns-then-not-ends_in_limits : goal.returns-then-not-ends_in_limits
unfolding kappa_in_limits
returns-then-not-ends_in_limits c =
    let t = c.before in
    let l = t.before.before in
    let h : l.loop-year._year < suc last_years = omega arith in
    sym (all-out _ l.loop-year._year (suc last_years) h (sym (year-tested t) ∙ not-true _ (ap not c.if-not-ends_in_limits.true)))

pub kappa_step-e-requires : goal.kappa_step-e-requires
unfolding grid_of
kappa_step-e-requires c =
    let t = c.before in
    let l = t.before.before in
    (l.before.requires, ends-within l.loop-year.e (rw (← t.ends_in_limits.ensures, not-false t.ends_in_limits.result (ap not c.if-not-ends_in_limits.false)) tt))

pub loop-year-preserved : goal.loop-year-preserved
unfolding kappa_in all_below grid_of
loop-year-preserved c =
    let e = c.before in
    let t = e.before in
    let l = t.before.before in
    let f = to_z-of_z l.before.ranges.start in (
      rw (c.kappa_step-e.ensures, l.loop-year.invariant.0, add-one l.loop-year._year),
      rw (add-one l.loop-year._year, l.loop-year.invariant.1, f, ← year-tested t, not-false t.ends_in_limits.result (ap not e.if-not-ends_in_limits.false)),
    )

pub returns : goal.returns
unfolding kappa_in_limits
returns c =
    let l = c.before in
    let e : l.loop-year._year ≡ suc last_years = omega arith in
    sym (rw (e, to_z-of_z l.before.ranges.start) at l.loop-year.invariant.1)
