-- `closed_sum` meets its contract. The loop's invariant: the two sums are those of the products taken, and the iterator has
-- the other weights and ends.
use borrow.Author.Rules.{rules}
use Rattle.std.proofs.Common.{◌≡◌, refl, ap, inl, inr, length, length-append, arith, ℤ}
use lib.Dec.{lit≤}
use Rattle.number_whole.proofs.laws.Bound.{bits, fits, back, under-weaken, divides}
use Rattle.number_whole.specs.declared.SignedEnds.{SignedEnds}
use Rattle.number_whole.specs.SignedEnds.{outward}
use Rattle.number_whole.specs.code.Sizes.{Under, Within, Divides}
use Rattle.number_whole.proofs.Signed.{read, read-floor, read-ceil, both_ends}
use Rattle.model_closure.specs.Weights.{fitted, weight_unit}
use Rattle.model_closure.specs.Closure.{least_sum, greatest_sum, weighted_mean}
use Rattle.model_closure.specs.code.Totals.{weight_limit}
use Rattle.model_closure.specs.code.Code.{sums_limit, weight_of}
use Rattle.model_closure.proofs.Sums.{sums_to, sums-within, below, weight-is, ends-are, summed-next, summed}
use Rattle.model_closure.proofs.closed_sum.Goals as goal
use Rattle.model_closure.proofs.closed_sum.Goals.{Start, In-Some, In-None}

pub loop-w-init : goal.loop-w-init
unfolding least_sum greatest_sum
loop-w-init c = record { counted = omega arith; is = refl; weights = search rules; ends = search rules }

-- the weight is within its limit
weight-small : (c : In-Some) → Under c.in-Some.w.now weight_limit
weight-small c =
    let l = c.in-Some.ensures.steps in
    let i = c.loop-w.invariant in
    rw (weight-is (search rules) (search rules) i l) (c.requires.0.weights _ (below (search rules) (search rules) i l))

pub add_product-sums-requires : goal.add_product-sums-requires
add_product-sums-requires c =
    let l = c.in-Some.ensures.steps in
    let i = c.loop-w.invariant in
    let u = weight-small (goal.at.add_product-sums-requires c).In-Some in (
      rw i.is (sums-within c.args.row c.args.h c.requires.0 c.requires.1 (length c.loop-w.yielded) i.counted),
      rw (back u tt) u,
      rw (ends-are (search rules) (search rules) i l) (c.requires.1 _ (below (search rules) (search rules) i l)),
    )

pub loop-w-preserved : goal.loop-w-preserved
loop-w-preserved c =
    let u = weight-small (goal.at.loop-w-preserved c).In-Some in
    let e = rw (back u tt) at c.add_product-sums.ensures in
    rw length-append (summed-next (search rules) (search rules) c.loop-w.invariant c.in-Some.ensures.steps e)

-- all products are summed
all : (c : In-None) → c.loop-w.sums ≡ sums_to (weight_of c.args.row) c.args.h fitted
all c =
    summed (search rules) (search rules) c.loop-w.invariant
    (elim c.in-None.ensures.steps [ inl w ↦ inl w.1.0 | inr w ↦ inr w.1.0 ])

-- a sum lies within the multiples that are added
asked : {z : ℤ} → Under z sums_limit → Divides (bits z) weight_unit 20000000000000000
asked u = rw (back u tt) (divides tt (under-weaken u (lit≤ tt)) tt)

small : (c : In-None) → Within sums_limit c.loop-w.sums
small c = rw (all c) (sums-within c.args.row c.args.h c.requires.0 c.requires.1 fitted (omega arith))

pub outward_div-requires : goal.outward_div-requires
outward_div-requires c = asked (small (goal.at.outward_div-requires c).In-None).low

pub outward_div-requires-2 : goal.outward_div-requires-2
outward_div-requires-2 c = asked (small (goal.at.outward_div-requires-2 c).In-None).high

pub returns : goal.returns
unfolding weighted_mean outward
returns c =
    let e = all (goal.at.returns c).In-None in
    let u = sums-within c.args.row c.args.h c.requires.0 c.requires.1 fitted (omega arith) in
    let low = fits u.low tt in
    let high = fits u.high tt in
    both_ends (read-floor weight_unit (read (ap (λ (k : SignedEnds). k.lower) e) low) low c.outward_div.ensures)
    (read-ceil weight_unit (read (ap (λ (k : SignedEnds). k.upper) e) high) high c.outward_div-2.ensures)
