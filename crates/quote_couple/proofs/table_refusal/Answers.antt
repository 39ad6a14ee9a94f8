-- `table_refusal` meets its contract: the lower of the two lives' refusals.
use mathlib.Core.Path.{ap₂, ◌∙◌}
use mir.Facts.{to_z-of_z}
use Rattle.set_refusal.specs.Refusals.{lower_refusal}
use Rattle.quote_couple.proofs.laws.CoupleTests.{table-lower}
use Rattle.quote_couple.proofs.table_refusal.Goals as goal

pub returns : goal.returns
returns c =
    let f = c.ranges in
    c.lower_refusal.ensures
    ∙ ap₂ lower_refusal
    (rw (to_z-of_z f.start, to_z-of_z f.age, to_z-of_z f.year, to_z-of_z f.span) at c.table_refusal-one.ensures)
    (rw (to_z-of_z f.start, to_z-of_z f.other, to_z-of_z f.year, to_z-of_z f.span) at c.table_refusal-two.ensures)
    ∙ table-lower c.args.start c.args.rule c.requires.2 c.args.age c.args.other c.args.year c.args.span

pub table_refusal-one-requires : goal.table_refusal-one-requires
table_refusal-one-requires c = rw (to_z-of_z c.ranges.start) (c.requires.0, c.requires.1)

pub table_refusal-two-requires : goal.table_refusal-two-requires
table_refusal-two-requires c = rw (to_z-of_z c.ranges.start) (c.requires.0, c.requires.1)
