-- `young_force` meets its contract: out of range the cell is out of range, and in range it is e^m.
use Rattle.std.proofs.Common.{◌≡◌, true, not, ap, sym, ◌∙◌}
use borrow.Author.Tests.{not-true, not-false}
use Rattle.number_exponential.specs.Exponential.{exp_between}
use Rattle.number_exponential.specs.Units.{grid_of}
use Rattle.number_whole.specs.declared.SignedEnds.{SignedEnds}
use Rattle.model_log_force.specs.LogForce.{cell_force, in_range}
use Rattle.model_log_force.proofs.laws.RangeLaws.{cell-negated}
use Rattle.model_force.specs.Force.{negated}
use Rattle.model_cells.specs.laws.Answers.{some-cell, none-cell}
use Rattle.model_cells.proofs.young_force.Goals as goal
use Rattle.model_cells.proofs.young_force.Tie as tie
use Rattle.model_cells.proofs.young_force.Lts as lts
use Rattle.model_cells.proofs.young_force.Reads as reads

-- the code's test, of the definition's log force
tested : (c : lts.After-in_range tie.the-claims reads.Pre reads.Post)
    → c.in_range.result ≡ in_range (grid_of c.args.grid) (cell_force (grid_of c.args.grid) c.args.age c.args.y.period c.args.y.kappas)
tested c = c.in_range.ensures ∙ ap (in_range (grid_of c.args.grid)) c.log_force_at-m.ensures

in-range : (c : goal.Else-not-in_range)
    → in_range (grid_of c.args.grid) (cell_force (grid_of c.args.grid) c.args.age c.args.y.period c.args.y.kappas) ≡ true
in-range c = sym (tested c.before) ∙ not-false _ (ap not c.if-not-in_range.false)

pub returns-then-not-in_range : goal.returns-then-not-in_range
returns-then-not-in_range c = none-cell _ (sym (tested c.before) ∙ not-true _ (ap not c.if-not-in_range.true))

pub force_to_90-requires : goal.force_to_90-requires
force_to_90-requires c =
    rw c.log_force_at-m.ensures (cell-negated c.requires.limits c.requires.wide (rw (in-range c) tt))

pub returns : goal.returns
returns c =
    some-cell (in-range c.before)
    (c.force_to_90.ensures
    ∙ ap (λ (k : SignedEnds). exp_between (grid_of c.args.grid) (negated k)) c.log_force_at-m.ensures)
