-- `expectancy_over` meets its contract. The loop's invariant: the running sums and the running survival are the expectancy
-- and the survival over the factors taken.
use Rattle.std.proofs.Common.{◌+◌, refl, arith}
use Rattle.number_exponential.specs.Units.{grid_of}
use Rattle.number_exponential.proofs.laws.GridFacts.{unit-most}
use Rattle.number_folds.specs.Folds.{plus}
use Rattle.number_folds.proofs.Running.{
  SurvivalTo,
  survival-none,
  survival-more,
  expectancy-none,
  expectancy-more,
  expectancy-all,
  factor-small,
}
use Rattle.number_folds.proofs.expectancy_over.Goals as goal
use Rattle.number_folds.proofs.expectancy_over.Goals.{After-with_factor-survival}

pub loop-factor-init : goal.loop-factor-init
loop-factor-init c =
    let e = c.unit_by-one.ensures in
    (expectancy-none c.requires _ e, survival-none c.requires e)

pub with_factor-survival-requires : goal.with_factor-survival-requires
with_factor-survival-requires c =
    (c.loop-factor.invariant.1.small, factor-small c.requires c.loop-factor.factor-index c.loop-factor-test.true)

-- the survival over one factor more
longer : (c : After-with_factor-survival)
    → SurvivalTo (grid_of c.args.grid) c.args.factors.now (c.loop-factor.factor-index + 1) c.with_factor-survival.result
longer c = survival-more c.requires c.loop-factor-test.true c.loop-factor.invariant.1 c.with_factor-survival.ensures

pub overflow_add-sums : goal.overflow_add-sums
overflow_add-sums c =
    let s = longer (goal.at.overflow_add-sums c).After-with_factor-survival in
    omega (arith, unit-most c.args.grid)

pub overflow_add-sums-in-loop-factor : goal.overflow_add-sums-in-loop-factor
overflow_add-sums-in-loop-factor c =
    let s = longer (goal.at.overflow_add-sums-in-loop-factor c).After-with_factor-survival in
    omega (arith, unit-most c.args.grid)

pub loop-factor-preserved : goal.loop-factor-preserved
unfolding plus
loop-factor-preserved c =
    let s = longer (goal.at.loop-factor-preserved c).After-with_factor-survival in
    (expectancy-more c.requires c.loop-factor-test.true c.loop-factor.invariant.0 s refl, s)

pub returns : goal.returns
returns c = expectancy-all (omega arith) c.loop-factor.invariant.0
