-- `survival_over` meets its contract. The loop's invariant: the running survival is that over the factors taken.
use Rattle.std.proofs.Common.{arith}
use Rattle.number_folds.proofs.Running.{survival-none, survival-more, survival-all, factor-small}
use Rattle.number_folds.proofs.survival_over.Goals as goal

pub loop-p-init : goal.loop-p-init
loop-p-init c = survival-none c.requires c.unit_by-one.ensures

pub with_factor-survival-requires : goal.with_factor-survival-requires
with_factor-survival-requires c = (c.loop-p.invariant.small, factor-small c.requires c.loop-p.p-index c.loop-p-test.true)

pub loop-p-preserved : goal.loop-p-preserved
loop-p-preserved c = survival-more c.requires c.loop-p-test.true c.loop-p.invariant c.with_factor-survival.ensures

pub returns : goal.returns
returns c = survival-all (omega arith) c.loop-p.invariant
