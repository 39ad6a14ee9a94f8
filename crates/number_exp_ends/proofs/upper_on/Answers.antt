-- `upper_on` meets its contract: below the cut-off by the upper sum and the constant, from the cut-off on 1.
use Prim.Native.Nat.{◌+◌, ◌≤◌}
use native.Mathlib.Omega.{arith}
use Rattle.number_exponential.specs.Grid.{Grid}
use Rattle.number_exponential.specs.Units.{grid_of}
use Rattle.number_exponential.proofs.laws.Facts.{Sound}
use Rattle.number_exponential.proofs.laws.Soundness.{step-positive, rest-small}
use Rattle.number_exponential.proofs.laws.GridFacts.{unit-sound}
use Rattle.number_products.specs.laws.Units.{unit-most}
use Rattle.number_exp_ends.proofs.Products.{upper_first, upper-later, upper-small, constant-more, upper-past}
use Rattle.number_exp_ends.proofs.upper_on.Goals as goal
use Rattle.number_exp_ends.proofs.upper_on.Tie as tie
use Rattle.number_exp_ends.proofs.upper_on.Lts as lts
use Rattle.number_exp_ends.proofs.upper_on.Reads as reads

abbrev grid : lts.After-cutoff_of tie.the-claims reads.Pre reads.Post → Grid
grid c = grid_of c.before.before.args.grid

sound : (c : lts.After-cutoff_of tie.the-claims reads.Pre reads.Post) → Sound (grid c)
sound c = unit-sound c.before.before.args.grid

pub nonzero_rem-z : goal.nonzero_rem-z
nonzero_rem-z c = rw c.before.before.step_of-step.ensures (step-positive _ (sound c.before))

pub sum_upper-sum-requires : goal.sum_upper-sum-requires
sum_upper-sum-requires c = rw c.before.before.step_of-step.ensures (rest-small _ (sound c.before) _)

-- the sum alone, and its product with the constant
pub returns-then-n-eq0 : goal.returns-then-n-eq0
returns-then-n-eq0 c =
    let t = c.before.before in
    let k = t.before in
    upper_first _ (sound k) k.before.step_of-step.ensures k.cutoff_of.ensures t.if-z-cutoff_of.true c.before.sum_upper-sum.ensures
    c.if-n-eq0.true

-- one more than the constant, and one less than the unit
more : (c : goal.After-whole_part) → let b = c.before.before in c.whole_part.result + 1 ≤ (grid b.before.before).unit
more c =
    let b = c.before.before in
    let t = b.before in
    let k = t.before in
    constant-more _ (sound k) k.before.step_of-step.ensures k.cutoff_of.ensures t.if-z-cutoff_of.true c.before.if-n-eq0.false
    c.whole_part.ensures

pub overflow_add-whole_part : goal.overflow_add-whole_part
overflow_add-whole_part c = omega (arith, more c, unit-most c.before.before.before.before.before.before.args.grid)

pub overflow_sub-unit_by : goal.overflow_sub-unit_by
overflow_sub-unit_by c = rw c.unit_by.ensures (grid c.before.before.before.before.before).positive

pub product_by-requires : goal.product_by-requires
product_by-requires c =
    let w = c.before in
    let b = w.before.before in
    let t = b.before in
    let k = t.before in (
      upper-small _ (sound k) k.before.step_of-step.ensures k.cutoff_of.ensures t.if-z-cutoff_of.true b.sum_upper-sum.ensures,
      omega (arith, more w),
      omega (arith, c.unit_by.ensures),
    )

pub returns-then-z-cutoff_of : goal.returns-then-z-cutoff_of
returns-then-z-cutoff_of c =
    let o = c.before in
    let w = o.before in
    let b = w.before.before in
    let t = b.before in
    let k = t.before in
    upper-later _ (sound k) k.before.step_of-step.ensures k.cutoff_of.ensures t.if-z-cutoff_of.true w.before.if-n-eq0.false
    b.sum_upper-sum.ensures w.whole_part.ensures o.unit_by.ensures c.product_by.ensures

pub nonzero_div-n : goal.nonzero_div-n
nonzero_div-n c = nonzero_rem-z c.before

pub returns : goal.returns
returns c = upper-past _ _ c.before.cutoff_of.ensures c.if-z-cutoff_of.false
