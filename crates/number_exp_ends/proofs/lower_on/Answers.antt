-- `lower_on` meets its contract: below the cut-off by the lower sum and the constant, from the cut-off on 0.
use Prim.Native.Nat.{zero-le}
use Rattle.number_exponential.specs.Grid.{Grid}
use Rattle.number_exponential.specs.Units.{grid_of}
use Rattle.number_exponential.proofs.laws.Facts.{Sound}
use Rattle.number_exponential.proofs.laws.Soundness.{step-positive, rest-small}
use Rattle.number_exponential.proofs.laws.GridFacts.{unit-sound}
use Rattle.number_exp_ends.proofs.Products.{lower-first, lower-later, lower-small, constant-small, lower-past}
use Rattle.number_exp_ends.proofs.lower_on.Goals as goal
use Rattle.number_exp_ends.proofs.lower_on.Tie as tie
use Rattle.number_exp_ends.proofs.lower_on.Lts as lts
use Rattle.number_exp_ends.proofs.lower_on.Reads as reads

abbrev grid : lts.After-cutoff_of tie.the-claims reads.Pre reads.Post → Grid
grid c = grid_of c.before.before.args.grid

sound : (c : lts.After-cutoff_of tie.the-claims reads.Pre reads.Post) → Sound (grid c)
sound c = unit-sound c.before.before.args.grid

pub nonzero_rem-z : goal.nonzero_rem-z
nonzero_rem-z c = rw c.before.before.step_of-step.ensures (step-positive _ (sound c.before))

pub sum_lower-sum-requires : goal.sum_lower-sum-requires
sum_lower-sum-requires c = rw c.before.before.step_of-step.ensures (rest-small _ (sound c.before) _)

-- the sum alone, and its product with the constant
pub returns-then-n-eq0 : goal.returns-then-n-eq0
returns-then-n-eq0 c =
    let t = c.before.before in
    let k = t.before in
    lower-first _ (sound k) k.before.step_of-step.ensures k.cutoff_of.ensures t.if-z-cutoff_of.true c.before.sum_lower-sum.ensures
    c.if-n-eq0.true

pub product_by-requires : goal.product_by-requires
product_by-requires c =
    let b = c.before.before in
    let t = b.before in
    let k = t.before in (
      lower-small _ (sound k) k.before.step_of-step.ensures k.cutoff_of.ensures t.if-z-cutoff_of.true b.sum_lower-sum.ensures,
      constant-small _ (sound k) _ c.whole_part.ensures,
      zero-le,
    )

pub returns-then-z-cutoff_of : goal.returns-then-z-cutoff_of
returns-then-z-cutoff_of c =
    let w = c.before in
    let b = w.before.before in
    let t = b.before in
    let k = t.before in
    lower-later _ (sound k) k.before.step_of-step.ensures k.cutoff_of.ensures t.if-z-cutoff_of.true b.sum_lower-sum.ensures
    w.whole_part.ensures c.product_by.ensures

pub nonzero_div-n : goal.nonzero_div-n
nonzero_div-n c = nonzero_rem-z c.before

pub returns : goal.returns
returns c = lower-past _ _ c.before.cutoff_of.ensures c.if-z-cutoff_of.false
