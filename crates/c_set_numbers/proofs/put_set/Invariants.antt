-- The numbers of the ages before x stand behind the table, the sex and the series.
use Rattle.std.proofs.Common.{◌+◌, ◌*◌}
use Rattle.c_set_numbers.specs.laws.SetNumbersLaws.{Front, first_ages}
use Rattle.c_set_numbers.proofs.put_set.Given as goal

abbrev pub invariant-loop-x : goal.invariant-loop-x
invariant-loop-x l = Front (first_ages l.p l.x) (8 + 4 * l.x) l.fn.values l.values
