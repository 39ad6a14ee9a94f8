-- `annuity_over` meets its contract. The loop's invariant: the running price, discount and survival are those over the
-- factors taken.
use Rattle.std.proofs.Common.{◌+◌, refl, arith}
use Rattle.number_exponential.specs.Units.{grid_of}
use Rattle.number_exponential.proofs.laws.GridFacts.{unit-most}
use Rattle.number_folds.specs.Folds.{plus}
use Rattle.number_folds.proofs.Running.{SurvivalTo, survival-none, survival-more, factor-small}
use Rattle.number_annuity.proofs.Running.{
  DiscountTo,
  discount-none,
  discount-more,
  PaymentTo,
  payment-to,
  price-none,
  price-more,
  price-all,
}
use Rattle.number_annuity.proofs.annuity_over.Goals as goal
use Rattle.number_annuity.proofs.annuity_over.Goals.{After-with_factor-survival, After-discounted-later, After-with_factor-payment}

pub loop-p-init : goal.loop-p-init
loop-p-init c =
    let e = c.unit_by-whole.ensures in
    (price-none c.args.rate c.requires.0 e, discount-none e, survival-none c.requires.0 e)

pub with_factor-survival-requires : goal.with_factor-survival-requires
with_factor-survival-requires c =
    (c.loop-p.invariant.2.small, factor-small c.requires.0 c.loop-p.p-index c.loop-p-test.true)

pub discounted-later-requires : goal.discounted-later-requires
discounted-later-requires c =
    let d = c.loop-p.invariant.1.small in
    let u = unit-most c.args.grid in
    (record { lower = omega (arith, u); upper = omega (arith, u) }, c.requires.1)

-- the survival and the discount over one year more, and the payment after it
longer : (c : After-with_factor-survival)
    → SurvivalTo (grid_of c.args.grid) c.args.factors.now (c.loop-p.p-index + 1) c.with_factor-survival.result
longer c = survival-more c.requires.0 c.loop-p-test.true c.loop-p.invariant.2 c.with_factor-survival.ensures

later : (c : After-discounted-later)
    → DiscountTo (grid_of c.args.grid) c.args.rate (c.loop-p.p-index + 1) c.discounted-later.result
later c = discount-more c.loop-p.invariant.1 c.discounted-later.ensures

paid : (c : After-with_factor-payment)
    → PaymentTo (grid_of c.args.grid) c.args.rate c.args.factors.now (c.loop-p.p-index + 1) c.with_factor-payment.result
paid c = payment-to (later c.before) (longer c.before.before) c.with_factor-payment.ensures

pub with_factor-payment-requires : goal.with_factor-payment-requires
with_factor-payment-requires c =
    let w = goal.at.with_factor-payment-requires c in
    ((later w.After-discounted-later).small, (longer w.After-with_factor-survival).small)

pub overflow_add-price : goal.overflow_add-price
overflow_add-price c =
    let r = paid (goal.at.overflow_add-price c).After-with_factor-payment in
    omega (arith, unit-most c.args.grid)

pub overflow_add-price-in-loop-p : goal.overflow_add-price-in-loop-p
overflow_add-price-in-loop-p c =
    let r = paid (goal.at.overflow_add-price-in-loop-p c).After-with_factor-payment in
    omega (arith, unit-most c.args.grid)

pub loop-p-preserved : goal.loop-p-preserved
unfolding plus
loop-p-preserved c =
    let w = goal.at.loop-p-preserved c in (
      price-more c.args.rate c.requires.0 c.loop-p-test.true c.loop-p.invariant.0 (paid w.After-with_factor-payment) refl,
      later w.After-discounted-later,
      longer w.After-with_factor-survival,
    )

pub returns : goal.returns
returns c = price-all (omega arith) c.loop-p.invariant.0
