-- What the code's contracts say beside the definitions: the answer over some days of a year.
use Rattle.std.specs.Prelude.{ℕ, ◌*◌, ◌≤◌, ◌<◌, Option}
use Rattle.number_exponential.specs.Exponential.{exp_between}
use Rattle.number_exponential.specs.Grid.{Grid}
use Rattle.number_exponential.specs.Outward.{outward_over}
use Rattle.set_params.specs.declared.Params.{Params}
use Rattle.model_mortality.specs.Cell.{force, needed_in_range}
use Rattle.number_exponential.specs.declared.Ends.{Ends}
use Rattle.model_cells.specs.code.Code.{cell_if}

-- the answer at age x in year n over d of its D days
abbrev pub part_cell : Grid → Params → ℕ → ℕ → ℕ → ℕ → Option Ends
part_cell g p x n d D =
    let f = force g p x n in
    cell_if (needed_in_range g p x n) (exp_between g (outward_over (f.lower * d) (f.upper * d) D))

-- days of a year
pub record DaysWithin (d D : ℕ) : Type 0 where
  pub days : d ≤ 366
  pub some : 0 < D
  pub whole : D ≤ 366
