-- `table_number` meets its contract.
use mathlib.Core.Path.{sym, ap}
use Rattle.c_set_numbers.specs.SetNumbers.{table_number}
use Rattle.c_set_numbers.proofs.table_number.Goals as goal

pub returns-in-Ag2014 : goal.returns-in-Ag2014
unfolding table_number
returns-in-Ag2014 c = sym (ap table_number c.in-Ag2014.is)

pub returns-in-LiLee : goal.returns-in-LiLee
unfolding table_number
returns-in-LiLee c = sym (ap table_number c.in-LiLee.is)
