-- `values_of` meets its contract: its tests are the definition's.
use Rattle.std.proofs.Common.{ap, sym, ◌∙◌, arith}
use Rattle.quote_compare.specs.declared.Values.TheVariants.{Below, Above, Near}
use Rattle.quote_compare.specs.Compare.{most_apart}
use Rattle.quote_compare.proofs.laws.CompareLaws.{values-below, values-above, values-near}
use Rattle.quote_compare.proofs.values_of.Goals as goal

pub returns-then-a-b : goal.returns-then-a-b
returns-then-a-b c =
    ap Below c.excess_of.ensures ∙ sym (values-below c.args.a c.args.b (omega (arith, c.if-a-b.true)))

pub returns-then-b-a : goal.returns-then-b-a
returns-then-b-a c =
    ap Above c.excess_of-then-b-a.ensures
    ∙ sym (values-above c.args.a c.args.b (omega (arith, c.if-a-b.false)) (omega (arith, c.if-b-a.true)))

pub returns : goal.returns
unfolding most_apart
returns c =
    ap Near c.max.ensures
    ∙ sym (values-near c.args.a c.args.b (omega (arith, c.if-a-b.false)) (omega (arith, c.if-b-a.false)))
