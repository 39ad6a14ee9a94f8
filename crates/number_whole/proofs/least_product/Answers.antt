-- `least_product` meets its contract: a negative factor takes the upper end, any other the lower one.
use mathlib.Core.Path.{◌≡◌}
use lib.IntN.{◌*ℤ◌}
use mir.Syntax.{w64}
use mir.Val.{SFits}
use borrow.Author.Rules.{rules}
use Rattle.number_whole.proofs.laws.Bound.{bits}
use Rattle.number_whole.specs.SignedEnds.{least_product}
use Rattle.number_whole.proofs.Signed.{EndsFit, choice}
use Rattle.number_whole.proofs.least_product.Goals as goal

-- the product with the end that the factor's sign chooses
chosen : (c : goal.After-end_by) → let s = c.before.before.before in let r = bits s.args.c *ℤ bits c.end_by.result in
    SFits w64 r × (bits r ≡ least_product s.args.c s.args.e)
unfolding least_product
chosen c =
    let s = c.before.before.before in
    let f : EndsFit s.args.e = record { lower = search rules; upper = search rules } in
    choice s.ranges.c f.lower f.upper c.end_by.ensures s.requires

pub overflow_mul-result : goal.overflow_mul-result
overflow_mul-result c = (chosen c).0

pub returns : goal.returns
returns c = (chosen c).1
