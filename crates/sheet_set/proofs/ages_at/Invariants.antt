use lib.ListN.{drop}
use Rattle.sheet_set.specs.laws.RunLaws.{AgesRead}
use Rattle.sheet_set.proofs.ages_at.Given as goal

abbrev pub invariant-loop-x : goal.invariant-loop-x
invariant-loop-x l = AgesRead (drop l.at l.bytes) (drop l.next l.bytes) l.initial.set l.x l.set
