-- `table` meets its contract: one test, which the checker computes over the whole table, shows that its rows are the rule's and
-- that each totals 110.
use mathlib.Core.Path.{refl}
use Rattle.number_whole.specs.Listed.{listed}
use Rattle.model_closure.specs.Weights.{weight}
use Rattle.model_closure.specs.code.Table.{weight_row, row_total, beside, totalled, ruled}
use Rattle.model_closure.proofs.table.Goals as goal

pub returns : goal.returns
unfolding listed weight weight_row row_total beside totalled ruled
returns c = refl
