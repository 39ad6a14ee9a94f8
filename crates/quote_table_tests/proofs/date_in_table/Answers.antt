-- `date_in_table` meets its contract: only a term that is to be a date is tested.
use mathlib.Core.Path.{ap}
use mathlib.Core.Path.{◌∙◌}
use borrow.Author.Rules.{rules}
use borrow.Author.Tests.{not-true, not-false}
use mir.Facts.{to_z-of_z}
use Rattle.quote_table_tests.specs.TableTests.{date_in_table}
use Rattle.quote_table_tests.proofs.date_in_table.Goals as goal

pub returns-then-not-rule : goal.returns-then-not-rule
unfolding date_in_table
returns-then-not-rule c = rw (not-true c.before.before.args.rule.dated c.if-not-rule.true)

pub returns : goal.returns
unfolding date_in_table
returns c =
    let s = c.before.before.before in
    rw (to_z-of_z s.ranges.term) at c.is_day.ensures
    ∙ rw (not-false s.args.rule.dated c.before.if-not-rule.false)
