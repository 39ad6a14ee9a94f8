-- `table_of` meets its contract: the test is of the number's bits.
use mathlib.Core.Path.{sym}
use Rattle.c_set_numbers.specs.laws.AnswerLaws.{table-zero, table-other}
use Rattle.c_set_numbers.proofs.table_of.Goals as goal

pub returns-then-label-eq0 : goal.returns-then-label-eq0
returns-then-label-eq0 c = sym (table-zero _ c.ranges.label c.if-label-eq0.true)

pub returns : goal.returns
returns c = sym (table-other _ c.if-label-eq0.false)
