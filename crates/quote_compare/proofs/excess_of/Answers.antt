-- `excess_of` meets its contract: the two differences of ends.
use Rattle.quote_compare.proofs.laws.CompareLaws.{excess-is}
use Rattle.quote_compare.proofs.excess_of.Goals as goal

pub returns : goal.returns
returns c =
    excess-is c.args.a c.args.b c.saturating_sub-least.ensures c.saturating_sub-most.ensures
