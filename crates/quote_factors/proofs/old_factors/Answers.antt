-- `old_factors` meets its contract.
use Rattle.std.proofs.Common.{◌≡◌, ap, sym, ◌∙◌, [], ℕ, ◌+◌, ◌≤◌, ◌<◌, min, get_or, le_refl, arith}
use Rattle.number_whole.proofs.laws.Bound.{back}
use Rattle.number_exponential.specs.Units.{grid_of}
use Rattle.set_limits.specs.laws.LimitsLaws.{in-limits-series}
use Rattle.model_closure.specs.Weights.{first_closed, last_closed}
use Rattle.model_closure.specs.code.Table.{weight_row}
use Rattle.model_closure.proofs.laws.WeightLaws.{table-row}
use Rattle.model_closure.proofs.examples.Rows.{row_within}
use Rattle.model_cells.specs.code.Fitted.{lent}
use Rattle.model_cells.specs.code.Code.{cell_of}
use Rattle.model_cells.specs.laws.Answers.{old-cell}
use Rattle.quote_paths.specs.Path.{place_at}
use Rattle.quote_paths.specs.declared.Path.{Path}
use Rattle.quote_walks.specs.code.Code.{YearAt}
use Rattle.quote_walks.proofs.Steps.{cell_at, worked-more, worked-out, year-may, year-step}
use Rattle.quote_factors.specs.code.Code.{worked_cells}
use Rattle.quote_factors.proofs.All.{cells-most, cells_left, cells-some, cells-young, out-all, worked-rest}
use Rattle.quote_factors.proofs.old_factors.Goals as goal
use Rattle.quote_factors.proofs.old_factors.Goals.{After-closed_row, then-on, else-on}
use Rattle.quote_factors.proofs.old_factors.Tie as tie
use Rattle.quote_factors.proofs.old_factors.Lts as lts
use Rattle.quote_factors.proofs.old_factors.Reads as reads

-- the cell at a turn is on the path
on-path : (w : Path) {n d : ℕ} → n ≡ worked_cells w.cohort w.age w.count → d < n → d < w.count
on-path w e h = omega (arith, e, h, cells-most w.cohort w.age w.count)

-- its age, at most 120, is closed
abbrev closing : ℕ → ℕ
closing x = min x last_closed

closed : (x : ℕ) → first_closed ≤ x → (first_closed ≤ closing x) × (closing x ≤ last_closed)
closed x h = (omega arith, omega arith)

-- and its row is the table's
row_read : (c : After-closed_row)
    → get_or c.table-table.result c.closed_row.result [] ≡ weight_row (closing (c.args.path.age + c.loop-done.done))
row_read c =
    let l = closed (c.args.path.age + c.loop-done.done) c.loop-done.invariant.above in
    ap (λ (i : ℕ). get_or c.table-table.result i []) c.closed_row.ensures ∙ table-row c.table-table.result c.table-table.ensures l.0 l.1

-- so the cell is the path's
cell-read : (c : lts.After-old_cell tie.the-claims reads.Pre reads.Post goal.the-invariant-loop-done goal.the-decreases-loop-done tie.handed_clauses)
    → cell_at (grid_of c.args.grid) c.args.p.now c.args.path c.loop-done.done ≡ c.old_cell.result
unfolding place_at
cell-read c =
    let x = c.args.path.age + c.loop-done.done in
    let v = c.loop-done.invariant in
    let l = closed x v.above in
    ap (cell_of (grid_of c.args.grid) c.args.p.now (closing x)) (sym (v.next.place (on-path c.args.path c.worked_count-worked.ensures c.loop-done-test.true)))
    ∙ sym (rw (row_read c.before.before) at c.old_cell.ensures ∙ old-cell v.heights l.0)

pub loop-done-init : goal.loop-done-init
loop-done-init c =
    let h = c.requires.1 in
    record {
      worked = h.worked;
      next = h.next;
      above = omega (arith, h.young, c.requires.2);
      heights = c.fitted_in-fitted.ensures (lent h.next.year);
    }

pub old_cell-requires : goal.old_cell-requires
old_cell-requires c =
    let l = closed (c.args.path.age + c.loop-done.done) c.loop-done.invariant.above in
    (rw (row_read c.before) (row_within l.0 l.1), c.loop-done.invariant.heights.limit)

pub returns-in_err-ends : goal.returns-in_err-ends
returns-in_err-ends c =
    rw c.from_residual.ensures
    (out-all (worked-out (grid_of c.args.grid) c.args.p.now c.args.path (on-path c.args.path c.worked_count-worked.ensures c.loop-done-test.true)
    (cell-read c.before.before.before ∙ c.in_err-ends.was)))

pub year_after-year-requires : goal.year_after-year-requires
year_after-year-requires c =
    let i = (in-limits-series c.args.p.now c.requires.0.limits).dynamics in
    λ on. rw (back i.a tt, back i.theta tt, back i.c tt)
    (year-may c.requires.0 c.loop-done.invariant.next (on-path c.args.path c.worked_count-worked.ensures c.loop-done-test.true) c.goes_on-on.ensures on)

-- the year after is that of the next cell
next : (c : lts.After-year_after tie.the-claims reads.Pre reads.Post goal.the-invariant-loop-done goal.the-decreases-loop-done tie.handed_clauses)
    → YearAt (grid_of c.args.grid) c.args.p.now c.args.path (c.loop-done.done + 1) c.year_after-year.result
next c =
    let i = (in-limits-series c.args.p.now c.requires.0.limits).dynamics in
    let y = rw (back i.a tt, back i.theta tt, back i.c tt) at c.year_after-year.ensures in
    year-step c.requires.0 c.loop-done.invariant.next (on-path c.args.path c.worked_count-worked.ensures c.loop-done-test.true) c.goes_on-on.result c.goes_on-on.ensures y

pub fitted_in-fitted-requires-then-on : goal.fitted_in-fitted-requires-then-on
fitted_in-fitted-requires-then-on c = lent (next c.before).year

pub loop-done-preserved : goal.loop-done-preserved
loop-done-preserved c =
    let v = c.loop-done.invariant in
    let y = c.before in
    record {
      worked = worked-more v.worked c.requires.0.room (on-path c.args.path c.worked_count-worked.ensures c.loop-done-test.true) (cell-read y.before.before.before.before ∙ c.in_ok-ends.was);
      next = next y;
      above = omega (arith, v.above);
      heights = elim c.if-on.branch [
        | then-on w ↦ rw w.fitted-is (w.fitted_in-fitted-then-on.ensures (lent (next y).year))
        | else-on w ↦ rw (w.fitted-is, c.year_after-year.ensures.same (rw w.if-on.false tt)) v.heights
      ];
    }

pub returns : goal.returns
returns c =
    let w = c.args.path in
    let v = c.loop-done.invariant in
    let e = c.worked_count-worked.ensures in
    let d : c.loop-done.done ≡ c.worked_count-worked.result = omega (arith, cells-young w.cohort w.age w.count e c.requires.1.young) in
    worked-rest c.worked_count-worked.result (cells-some w.cohort w.age w.count e c.requires.0.age (omega (arith, c.requires.2)) (le_refl _)) c.requires.0.room (rw d at v.worked)
    (cells_left w.cohort w.age w.count e (le_refl _))
    c.repeated.ensures
