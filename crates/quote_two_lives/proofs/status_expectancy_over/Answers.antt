-- `status_expectancy_over` meets its contract. The loop's invariant: the running sums and the two running survivals are the
-- expectancy of the status and the survivals over the factors taken, and the iterator has the others.
use Rattle.std.proofs.Common.{arith, rules, refl, length-append, inl, inr}
use Rattle.number_exponential.specs.Units.{grid_of}
use Rattle.number_exponential.proofs.laws.GridFacts.{unit-most}
use Rattle.number_folds.specs.Folds.{plus}
use Rattle.number_folds.specs.code.Code.{AtMost}
use Rattle.quote_two_lives.proofs.Running.{small, small', both-small, chance-small, status-none, status-more, status-all, status-all'}
use Rattle.quote_two_lives.proofs.status_expectancy_over.Goals as goal
use Rattle.quote_two_lives.proofs.status_expectancy_over.Goals.{After-status_chance-chance}

pub loop-p-init : goal.loop-p-init
loop-p-init c = status-none c.args.status c.requires.0 c.requires.1 _ c.unit_by-one.ensures (search rules) (search rules)

pub with_factor-s-requires : goal.with_factor-s-requires
with_factor-s-requires c = small c.requires.0 c.requires.1 c.in-Some.ensures.steps c.loop-p.invariant

pub with_factor-t-requires : goal.with_factor-t-requires
with_factor-t-requires c = small' c.requires.0 c.requires.1 c.in-Some.ensures.steps c.loop-p.invariant

pub status_chance-chance-requires : goal.status_chance-chance-requires
status_chance-chance-requires c =
    both-small c.requires.0 c.requires.1 c.in-Some.ensures.steps c.loop-p.invariant c.with_factor-s.ensures c.with_factor-t.ensures

-- the chance of the status over the factors taken fits beside the sums
chance : (c : After-status_chance-chance) → AtMost (grid_of c.args.grid).unit c.status_chance-chance.result
chance c =
    chance-small c.requires.0 c.requires.1 c.in-Some.ensures.steps c.loop-p.invariant c.with_factor-s.ensures c.with_factor-t.ensures
    c.status_chance-chance.ensures

pub overflow_add-sums : goal.overflow_add-sums
overflow_add-sums c =
    let s = chance (goal.at.overflow_add-sums c).After-status_chance-chance in
    omega (arith, unit-most c.args.grid, c.loop-p.invariant.expectancy.small)

pub overflow_add-sums-in-loop-p : goal.overflow_add-sums-in-loop-p
overflow_add-sums-in-loop-p c =
    let s = chance (goal.at.overflow_add-sums-in-loop-p c).After-status_chance-chance in
    omega (arith, unit-most c.args.grid, c.loop-p.invariant.expectancy.small)

pub loop-p-preserved : goal.loop-p-preserved
unfolding plus
loop-p-preserved c =
    rw length-append
    (status-more c.requires.0 c.requires.1 c.in-Some.ensures.steps c.loop-p.invariant c.with_factor-s.ensures c.with_factor-t.ensures
    c.status_chance-chance.ensures refl)

pub returns : goal.returns
returns c =
    elim c.in-None.ensures.steps [
      | inl w ↦ status-all c.requires.2 c.loop-p.invariant w.1.0
      | inr w ↦ status-all' c.requires.2 c.loop-p.invariant w.1.0
    ]
