-- `survival_to_90` meets its contract: the exponential of minus the force.
use mathlib.Core.Path.{ap, ◌∙◌}
use borrow.Author.Rules.{rules}
use Rattle.number_exponential.specs.Units.{grid_of}
use Rattle.number_exponential.specs.Exponential.{exp_between}
use Rattle.model_force.proofs.survival_to_90.Goals as goal

pub returns : goal.returns
returns c = c.exp_between.ensures ∙ ap (exp_between (grid_of c.before.before.args.grid)) c.before.force_to_90.ensures
