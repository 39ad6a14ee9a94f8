-- `part_cell` meets its contract: without a force the cell is out of range, and with it the exponential is that of its part.
use Rattle.std.proofs.Common.{sym, ◌∙◌}
use lib.Ieee.Bits.{is_true}
use Rattle.number_exponential.specs.Units.{grid_of}
use Rattle.number_exponential.proofs.laws.GridFacts.{unit-sound}
use Rattle.model_mortality.specs.Cell.{force, needed_in_range}
use Rattle.model_mortality.proofs.laws.AtMostOne.{force-one}
use Rattle.model_cells.specs.laws.Answers.{cell-there, cell-gone, some-cell, none-cell}
use Rattle.model_part_year.proofs.part_cell.Goals as goal

pub returns-in_err-f : goal.returns-in_err-f
returns-in_err-f c =
    c.from_residual.ensures ∙ none-cell _ (cell-gone (needed_in_range _ _ _ _) (force _ _ _ _) (sym c.in_err-f.ensures))

pub exp_over-requires : goal.exp_over-requires
exp_over-requires c =
    let o = force-one (grid_of c.args.grid) (unit-sound c.args.grid) c.args.p c.args.x c.args.n in
    rw (cell-there (needed_in_range _ _ _ _) (force _ _ _ _) (sym c.in_ok-f.ensures)).1 (o.0, o.1, c.requires.3)

pub returns : goal.returns
returns c =
    let t = cell-there (needed_in_range _ _ _ _) (force _ _ _ _) (sym c.in_ok-f.ensures) in
    some-cell (is_true _ t.0) (rw t.1 at c.exp_over.ensures)
