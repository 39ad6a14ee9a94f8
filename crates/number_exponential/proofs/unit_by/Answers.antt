-- `unit_by` meets its contract, case by case.
use mathlib.Core.Path.{sym, ap}
use Rattle.number_exponential.specs.Units.{grid_of}
use Rattle.number_exponential.proofs.unit_by.Goals as goal

pub returns-in-Coarse : goal.returns-in-Coarse
unfolding grid_of
returns-in-Coarse c = sym (ap (λ g. (grid_of g).unit) c.in-Coarse.is)

pub returns-in-Fine : goal.returns-in-Fine
unfolding grid_of
returns-in-Fine c = sym (ap (λ g. (grid_of g).unit) c.in-Fine.is)
