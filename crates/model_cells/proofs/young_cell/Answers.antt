-- `young_cell` meets its contract by those of the force and of p.
use Rattle.std.proofs.Common.{ap, ◌∙◌}
use Rattle.number_exponential.specs.Units.{grid_of}
use Rattle.model_cells.specs.code.Code.{lived_cell}
use Rattle.model_cells.specs.laws.Answers.{lived-if}
use Rattle.model_cells.proofs.young_cell.Goals as goal

pub returns : goal.returns
returns c = c.lived.ensures ∙ ap (lived_cell (grid_of c.args.grid)) c.young_force.ensures ∙ lived-if _ _ _
