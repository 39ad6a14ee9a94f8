use Rattle.std.proofs.Common.{◌≡◌, true}
use Rattle.set_limits.specs.InLimits.{all_below}
use Rattle.set_limits.specs.laws.LimitsLaws.{age_test}
use Rattle.set_limits.proofs.in_limits.Given as goal

abbrev pub invariant-loop-x : goal.invariant-loop-x
invariant-loop-x l = all_below (age_test l.p) l.x ≡ true
