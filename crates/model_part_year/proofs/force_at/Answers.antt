-- `force_at` meets its contract: to age 90 by the age's parameters, above by the closure of its year.
use mathlib.Core.Path.{◌≡◌, ap, ◌∙◌}
use mathlib.Core.List.{[]}
use Prim.Native.Nat.{◌-◌}
use lib.ListN.{get_or}
use Rattle.number_exponential.specs.Units.{grid_of}
use Rattle.set_params.specs.Set.{age_of}
use Rattle.set_params.specs.laws.SetLaws.{four-age}
use Rattle.model_log_force.proofs.laws.YearLaws.{year-asked, year-given, cell-within, year-force}
use Rattle.model_closure.specs.Weights.{first_closed}
use Rattle.model_closure.specs.code.Table.{weight_row}
use Rattle.model_closure.proofs.laws.WeightLaws.{table-row}
use Rattle.model_closure.proofs.examples.Rows.{row_within}
use Rattle.model_cells.specs.code.Fitted.{FittedOf, lent}
use Rattle.model_cells.specs.code.Code.{force_cell}
use Rattle.model_cells.specs.laws.Answers.{young-force, old-force}
use Rattle.model_part_year.proofs.force_at.Goals as goal

pub year_at-y-requires : goal.year_at-y-requires
year_at-y-requires c = year-asked _ _ c.requires.0 c.requires.2

-- ---- to age 90

age-read : (c : goal.After-age_of_runs-four) → c.age_of_runs-four.result ≡ age_of c.args.p c.args.x
age-read c = c.age_of_runs-four.ensures ∙ four-age _ _

pub young_force-requires : goal.young_force-requires
young_force-requires c =
    rw (age-read c) (cell-within (year-given _ _ c.requires.0 c.requires.2 c.year_at-y.ensures) c.if-x-lt-FIRST_CLOSED.true)

pub returns-then-x-lt-FIRST_CLOSED : goal.returns-then-x-lt-FIRST_CLOSED
returns-then-x-lt-FIRST_CLOSED c =
    let y = year-given _ _ c.requires.0 c.requires.2 c.year_at-y.ensures in
    rw (age-read c.before, year-force y c.args.x) at c.young_force.ensures
    ∙ young-force (grid_of c.args.grid) c.args.p c.year_at-y.result.number c.if-x-lt-FIRST_CLOSED.true
    ∙ ap (force_cell (grid_of c.args.grid) c.args.p c.args.x) c.year_at-y.ensures.number

-- ---- above

heights : (c : goal.After-fitted_in-fitted) → FittedOf (grid_of c.args.grid) c.args.p c.year_at-y.result.number c.fitted_in-fitted.result
heights c = c.fitted_in-fitted.ensures (lent (year-given _ _ c.requires.0 c.requires.2 c.year_at-y.ensures))

row_read : (c : goal.After-fitted_in-fitted) → get_or c.table-table.result (c.args.x - first_closed) [] ≡ weight_row c.args.x
row_read c = table-row c.table-table.result c.table-table.ensures c.if-x-lt-FIRST_CLOSED.false c.requires.1

pub old_force-requires : goal.old_force-requires
old_force-requires c =
    (rw (row_read c) (row_within c.if-x-lt-FIRST_CLOSED.false c.requires.1), (heights c).limit)

pub returns : goal.returns
returns c =
    rw (row_read c.before) at c.old_force.ensures ∙ old-force (heights c.before) c.if-x-lt-FIRST_CLOSED.false
    ∙ ap (force_cell (grid_of c.args.grid) c.args.p c.args.x) c.year_at-y.ensures.number
