-- `finer_of` meets its contract, case by case.
use mathlib.Core.Path.{sym, ap}
use Rattle.number_exponential.specs.declared.GridUnit.{GridUnit}
use Rattle.quote_compare.specs.Compare.{finer}
use Rattle.quote_compare.proofs.finer_of.Goals as goal

pub returns-in-Coarse : goal.returns-in-Coarse
unfolding finer
returns-in-Coarse c = sym (ap (λ (u : GridUnit). finer u c.args.b) c.in-Coarse.is)

pub returns-in-Fine : goal.returns-in-Fine
unfolding finer
returns-in-Fine c = sym (ap (λ (u : GridUnit). finer u c.args.b) c.in-Fine.is)
