-- `sex_number` meets its contract.
use mathlib.Core.Path.{sym, ap}
use Rattle.c_set_numbers.specs.SetNumbers.{sex_number}
use Rattle.c_set_numbers.proofs.sex_number.Goals as goal

pub returns-in-M : goal.returns-in-M
unfolding sex_number
returns-in-M c = sym (ap sex_number c.in-M.is)

pub returns-in-F : goal.returns-in-F
unfolding sex_number
returns-in-F c = sym (ap sex_number c.in-F.is)
