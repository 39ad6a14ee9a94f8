-- `is_label` meets its contract: the tests are of the number's bits.
use Rattle.std.proofs.Common.{sym}
use borrow.Author.Tests.{eq-eqb}
use Rattle.c_set_numbers.specs.laws.AnswerLaws.{label-zero, label-other}
use Rattle.c_set_numbers.proofs.is_label.Goals as goal

pub returns-then-v-eq0 : goal.returns-then-v-eq0
returns-then-v-eq0 c = rw (eq-eqb _ 0 c.if-v-eq0.true) (sym (label-zero _ c.ranges.v c.if-v-eq0.true))

pub returns-else-v-eq0 : goal.returns-else-v-eq0
returns-else-v-eq0 c = label-other _ c.ranges.v c.if-v-eq0.false
