-- `scale_of` meets its contract, case by case.
use mathlib.Core.Path.{sym, ap}
use Rattle.number_exponential.specs.declared.GridUnit.{GridUnit}
use Rattle.number_exponential.specs.Units.{grid_of}
use Rattle.quote_compare.proofs.scale_of.Goals as goal

pub returns-in-Coarse : goal.returns-in-Coarse
unfolding grid_of
returns-in-Coarse c = sym (ap (λ (u : GridUnit). (grid_of u).scale) c.in-Coarse.is)

pub returns-in-Fine : goal.returns-in-Fine
unfolding grid_of
returns-in-Fine c = sym (ap (λ (u : GridUnit). (grid_of u).scale) c.in-Fine.is)
