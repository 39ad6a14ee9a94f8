-- The run holds, for each age passed, its number of every fourth.
use Rattle.std.proofs.Common.{drop}
use Rattle.sheet_set.specs.laws.RunLaws.{Run}
use Rattle.c_set_numbers.proofs.run.Given as goal

abbrev pub invariant-loop-age : goal.invariant-loop-age
invariant-loop-age l = Run l.value-items l.from (drop 2 l.values) l.age
