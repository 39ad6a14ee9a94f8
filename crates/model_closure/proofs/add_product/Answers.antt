-- `add_product` meets its contract: the products and the sums with them fit.
use Rattle.number_whole.proofs.laws.Bound.{fits, back}
use Rattle.number_whole.proofs.laws.EndLaws.{least_under, greatest-under}
use Rattle.number_whole.proofs.Signed.{both_ends}
use Rattle.model_closure.specs.code.Code.{with_product}
use Rattle.model_closure.proofs.Sums.{next-least, next-greatest}
use Rattle.model_closure.proofs.add_product.Goals as goal

pub least_product-least-requires : goal.least_product-least-requires
least_product-least-requires c =
    let p = c.requires in
    rw (back p.1 tt) (fits (least_under p.1 p.2) tt)

pub greatest_product-greatest-requires : goal.greatest_product-greatest-requires
greatest_product-greatest-requires c =
    let p = c.before.requires in
    rw (back p.1 tt) (fits (greatest-under p.1 p.2) tt)

pub overflow_add-result : goal.overflow_add-result
overflow_add-result c =
    let l = c.before.before.before in
    let p = l.before.requires in
    (next-least p.0.low p.1 p.2 l.least_product-least.ensures).0

pub overflow_add-result-2 : goal.overflow_add-result-2
overflow_add-result-2 c =
    let g = c.before.before.before.before in
    let p = g.before.before.requires in
    (next-greatest p.0.high p.1 p.2 g.greatest_product-greatest.ensures).0

pub returns : goal.returns
unfolding with_product
returns c =
    let g = c.before.before.before.before in
    let l = g.before in
    let p = l.before.requires in
    both_ends (next-least p.0.low p.1 p.2 l.least_product-least.ensures).1
    (next-greatest p.0.high p.1 p.2 g.greatest_product-greatest.ensures).1
