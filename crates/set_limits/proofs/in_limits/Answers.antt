-- `in_limits` meets its contract. The loop's invariant: the ages before x are in limits. A set of AG2014 needs no test of
-- kappa, by `steady-kappa`.
use borrow.Author.Rules.{rules}
use Rattle.std.proofs.Common.{◌≡◌, refl, sym, ap, ◌∙◌, Bool, true, ◌&&◌, T, add-one, arith}
use mir.Syntax.{w64}
use mir.Val.{SFits}
use mir.Facts.{to_z-of_z}
use Rattle.set_params.specs.declared.Params.{Params}
use Rattle.set_params.specs.Set.{ages, dynamics_of}
use Rattle.set_params.specs.laws.SetLaws.{four-age}
use Rattle.set_limits.specs.InLimits.{all_below, table_in_limits, series_in_limits, age_in_limits, kappa_in_limits, in_limits}
use Rattle.set_limits.specs.laws.LimitsLaws.{age_test, all-out, dynamics-within, steady-kappa}
use Rattle.set_limits.proofs.in_limits.Goals as goal
use Rattle.set_limits.proofs.in_limits.Goals.{
  then-not-table_in_limits-via-then-not-table_in_limits,
  then-not-table_in_limits-via-else-not-table_in_limits+then-not-series_in_limits,
}
use Rattle.set_limits.proofs.in_limits.Goals.{Start, Else-not-series_in_limits, After-loop-x}

-- the set's numbers that are tested one by one
record Fields (p : Params) : Type 0 where
  start : SFits w64 p.start
  a : SFits w64 p.a
  theta : SFits w64 p.theta
  c : SFits w64 p.c
  kappa : SFits w64 p.kappa

fields : (s : Start) → Fields s.args.p
fields s = record { start = search rules; a = search rules; theta = search rules; c = search rules; kappa = search rules }

-- the tests before the ages' passed
record Begun (p : Params) : Type 0 where
  table : true ≡ table_in_limits p.table p.start p.c
  series : true ≡ series_in_limits p

begun : (c : Else-not-series_in_limits) → Fields c.args.p → Begun c.args.p
begun c f =
    record { table = rw (to_z-of_z f.start, to_z-of_z f.c) at c.if-not-table_in_limits.ensures; series = c.if-not-series_in_limits.ensures }

module _ (p : Params) (b : Begun p) where
  -- the others decide
  others : {x : Bool} → x ≡ (all_below (age_test p) ages && kappa_in_limits (dynamics_of p) p.kappa) → x ≡ in_limits p
  unfolding in_limits
  others e = rw (← b.table, ← b.series) e

  table-in : T (table_in_limits p.table p.start p.c)
  table-in = rw (← b.table) tt

  series-in : T (series_in_limits p)
  series-in = rw (← b.series) tt

pub returns-then-not-table_in_limits : goal.returns-then-not-table_in_limits
unfolding in_limits
returns-then-not-table_in_limits c =
    let f = fields (goal.at.returns-then-not-table_in_limits c).Start in
    let t = rw (to_z-of_z f.start, to_z-of_z f.c) at c.table_in_limits.ensures in
    elim c.then-not-table_in_limits.branch [
      | then-not-table_in_limits-via-then-not-table_in_limits w ↦ rw (← t, w.if-not-table_in_limits.true)
      | then-not-table_in_limits-via-else-not-table_in_limits+then-not-series_in_limits w ↦
          rw (← t, w.if-not-table_in_limits.false, ← w.series_in_limits.ensures, w.if-not-series_in_limits.true)
    ]

pub loop-x-init : goal.loop-x-init
unfolding all_below
loop-x-init c = refl

pub returns-then-not-age_in_limits : goal.returns-then-not-age_in_limits
returns-then-not-age_in_limits c =
    let w = goal.at.returns-then-not-age_in_limits c in
    let e = ap age_in_limits (c.age_of_runs-age.ensures ∙ four-age c.args.p c.loop-x.x) in
    let out = all-out (age_test c.args.p) c.loop-x.x ages c.loop-x-test.true (sym (c.if-not-age_in_limits.ensures ∙ e)) in
    others c.args.p (begun w.Else-not-series_in_limits (fields w.Start)) (rw out)

pub loop-x-preserved : goal.loop-x-preserved
unfolding all_below
loop-x-preserved c =
    let e = ap age_in_limits (c.age_of_runs-age.ensures ∙ four-age c.args.p c.loop-x.x) in
    rw (add-one c.loop-x.x, c.loop-x.invariant) (sym (c.if-not-age_in_limits.ensures ∙ e))

-- all ages are in limits
ages-in : (c : After-loop-x) → all_below (age_test c.args.p) ages ≡ true
ages-in c = let e : c.loop-x.x ≡ ages = omega arith in rw e at c.loop-x.invariant

pub returns-in-Ag2014 : goal.returns-in-Ag2014
returns-in-Ag2014 c =
    let w = goal.at.returns-in-Ag2014 c in
    let b = begun w.Else-not-series_in_limits (fields w.Start) in
    others c.args.p b (rw (ages-in w.After-loop-x, steady-kappa _ c.in-Ag2014.is (table-in _ b) (series-in _ b)))

pub kappa_in_limits-requires : goal.kappa_in_limits-requires
kappa_in_limits-requires c =
    let w = goal.at.kappa_in_limits-requires c in
    let f = fields w.Start in
    let b = begun w.Else-not-series_in_limits f in
    rw (to_z-of_z f.a, to_z-of_z f.theta, to_z-of_z f.c) (dynamics-within _ (table-in _ b) (series-in _ b))

pub returns-in-LiLee : goal.returns-in-LiLee
returns-in-LiLee c =
    let w = goal.at.returns-in-LiLee c in
    let f = fields w.Start in
    let k = rw (to_z-of_z f.a, to_z-of_z f.theta, to_z-of_z f.c, to_z-of_z f.kappa) at c.kappa_in_limits.ensures in
    others c.args.p (begun w.Else-not-series_in_limits f) (rw (ages-in w.After-loop-x) k)
