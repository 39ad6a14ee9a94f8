-- `young_factors` meets its contract.
use Rattle.std.proofs.Common.{◌≡◌, refl, sym, ◌∙◌, ℕ, ◌+◌, ◌-◌, ◌<◌, min, arith}
use native.Mathlib.Nat.{min-le_left, min-le_right}
use mathlib.Core.Path.{ap₂}
use Rattle.number_exponential.specs.Units.{grid_of}
use Rattle.number_whole.proofs.laws.Bound.{back}
use Rattle.set_limits.specs.laws.LimitsLaws.{in-limits-series}
use Rattle.set_params.specs.Set.{age_of}
use Rattle.set_params.specs.laws.SetLaws.{four-age}
use Rattle.model_closure.specs.Weights.{first_closed}
use Rattle.model_log_force.proofs.laws.YearLaws.{year-asked, year-given, cell-within, year-force}
use Rattle.model_cells.specs.laws.Answers.{young-cell}
use Rattle.model_cells.specs.code.Code.{cell_of}
use Rattle.quote_paths.specs.Path.{place_at}
use Rattle.quote_paths.proofs.laws.Oldest.{place-age}
use Rattle.quote_paths.specs.declared.Path.{Path}
use Rattle.quote_walks.proofs.Steps.{cell_at, worked-none, worked-more, worked-out, first-year, year-may, year-step}
use Rattle.quote_walks.proofs.young_factors.Goals as goal
use Rattle.quote_walks.proofs.young_factors.Tie as tie
use Rattle.quote_walks.proofs.young_factors.Lts as lts
use Rattle.quote_walks.proofs.young_factors.Reads as reads

-- a turn of the loop is at an age to 90 of the path
young-turn : (w : Path) {y d : ℕ} → y ≡ min (first_closed - w.age) w.count → d < y → (d < w.count) × (w.age + d < first_closed)
young-turn w e h =
    let l = min-le_left (first_closed - w.age) w.count in
    let m = min-le_right (first_closed - w.age) w.count in
    (omega arith, omega arith)

-- the parameters of the age that a turn reads are the set's
age-read : (c : goal.After-age_of_runs-four) → c.age_of_runs-four.result ≡ age_of c.args.p (c.args.path.age + c.loop-done.done)
age-read c = c.age_of_runs-four.ensures ∙ four-age _ _

-- so the cell is the path's
cell-read : (c : lts.After-young_cell tie.the-claims reads.Pre reads.Post goal.the-invariant-loop-done goal.the-decreases-loop-done tie.handed_clauses)
    → cell_at (grid_of c.args.grid) c.args.p c.args.path c.loop-done.done ≡ c.young_cell.result
unfolding place_at
cell-read c =
    let w = c.args.path in
    let y = c.loop-done.invariant.1 in
    let l = young-turn w c.young_count-young.ensures c.loop-done-test.true in
    let e = rw (age-read c.before, year-force y.year (w.age + c.loop-done.done)) at c.young_cell.ensures in
    ap₂ (cell_of (grid_of c.args.grid) c.args.p)
    (place-age w.cohort w.age w.year c.loop-done.done (omega arith)) (sym (y.place l.0))
    ∙ sym (e ∙ young-cell (grid_of c.args.grid) c.args.p c.loop-done.year.number l.1)

pub year_at-year-requires : goal.year_at-year-requires
year_at-year-requires c = year-asked _ _ c.requires.limits c.requires.first

pub loop-done-init : goal.loop-done-init
unfolding place_at
loop-done-init c = (
  worked-none (grid_of c.args.grid) c.args.p c.args.path refl,
  record {
    year = year-given _ _ c.requires.limits c.requires.first c.year_at-year.ensures;
    place = λ h. c.year_at-year.ensures.number ∙ first-year c.args.path.cohort c.args.path.year;
  },
)

pub young_cell-requires : goal.young_cell-requires
young_cell-requires c =
    rw (age-read c) (cell-within c.loop-done.invariant.1.year (young-turn c.args.path c.young_count-young.ensures c.loop-done-test.true).1)

pub returns-in_err-ends : goal.returns-in_err-ends
returns-in_err-ends c =
    let l = young-turn c.args.path c.young_count-young.ensures c.loop-done-test.true in
    rw c.from_residual.ensures
    (worked-out (grid_of c.args.grid) c.args.p c.args.path l.0 (cell-read c.before.before.before ∙ c.in_err-ends.was))

pub year_after-year-requires : goal.year_after-year-requires
year_after-year-requires c =
    let i = (in-limits-series c.args.p c.requires.limits).dynamics in
    let l = young-turn c.args.path c.young_count-young.ensures c.loop-done-test.true in
    λ on. rw (back i.a tt, back i.theta tt, back i.c tt) (year-may c.requires c.loop-done.invariant.1 l.0 c.goes_on.ensures on)

pub loop-done-preserved : goal.loop-done-preserved
loop-done-preserved c =
    let v = c.loop-done.invariant in
    let i = (in-limits-series c.args.p c.requires.limits).dynamics in
    let l = young-turn c.args.path c.young_count-young.ensures c.loop-done-test.true in
    let a = rw (back i.a tt, back i.theta tt, back i.c tt) at c.year_after-year.ensures in (
      worked-more v.0 c.requires.room l.0 (cell-read c.before.before.before.before ∙ c.in_ok-ends.was),
      year-step c.requires v.1 l.0 c.goes_on.result c.goes_on.ensures a,
    )

pub returns : goal.returns
returns c =
    let v = c.loop-done.invariant in
    let d : c.loop-done.done ≡ c.young_count-young.result = omega arith in
    record { worked = rw d at v.0; next = rw d at v.1; young = c.young_count-young.ensures }
