-- `sex_of` meets its contract: the test is of the number's bits.
use mathlib.Core.Path.{sym}
use Rattle.c_set_numbers.specs.laws.AnswerLaws.{sex-zero, sex-other}
use Rattle.c_set_numbers.proofs.sex_of.Goals as goal

pub returns-then-label-eq0 : goal.returns-then-label-eq0
returns-then-label-eq0 c = sym (sex-zero _ c.ranges.label c.if-label-eq0.true)

pub returns : goal.returns
returns c = sym (sex-other _ c.if-label-eq0.false)
