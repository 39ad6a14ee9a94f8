-- `shifted` meets its contract: either way the sum is formed of numbers that are at least 0.
use Rattle.number_whole.proofs.Rounding.{below-zero, not-below-zero, Lowered, lowered, Raised, raised}
use Rattle.number_whole.proofs.shifted.Goals as goal

under-zero : (c : goal.Then-z-lt0) → let s = c.before in Lowered s.args.z s.args.by
under-zero c = let s = c.before in lowered s.ranges.z (below-zero s.ranges.z c.if-z-lt0.true) s.requires.0

over_zero : (c : goal.Else-z-lt0) → let s = c.before in Raised s.args.z s.args.by
over_zero c = let s = c.before in raised s.ranges.z (not-below-zero s.ranges.z c.if-z-lt0.false) s.requires.1

pub overflow_sub-result : goal.overflow_sub-result
overflow_sub-result c = (under-zero c).some

pub overflow_sub-result-then-z-lt0 : goal.overflow_sub-result-then-z-lt0
overflow_sub-result-then-z-lt0 c = (under-zero c).fits

pub overflow_cast-result : goal.overflow_cast-result
overflow_cast-result c = (under-zero c).cast

pub overflow_sub-result-then-z-lt0-2 : goal.overflow_sub-result-then-z-lt0-2
overflow_sub-result-then-z-lt0-2 c = (under-zero c).room

pub returns-then-z-lt0 : goal.returns-then-z-lt0
returns-then-z-lt0 c = (under-zero c).is

pub overflow_cast-result-2 : goal.overflow_cast-result-2
overflow_cast-result-2 c = (over_zero c).cast

pub overflow_add-result : goal.overflow_add-result
overflow_add-result c = (over_zero c).fits

pub returns : goal.returns
returns c = (over_zero c).is
