-- `pair_of` meets its contract: the values of the ends in the finer unit.
use Rattle.quote_compare.proofs.laws.CompareLaws.{pair_is}
use Rattle.quote_compare.proofs.pair_of.Goals as goal

pub returns : goal.returns
returns c =
    let f = c.before.before.before in
    let s = f.before.args in
    pair_is s.a s.b f.finer_of-unit.ensures c.before.before.ends_in.ensures c.before.ends_in-2.ensures
    c.values_of-values.ensures
