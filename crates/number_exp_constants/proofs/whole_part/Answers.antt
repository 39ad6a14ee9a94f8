-- `whole_part` meets its contract by those of the two tables.
use mathlib.Core.Path.{sym, ap, ◌∙◌}
use borrow.Author.Rules.{rules}
use Rattle.number_exponential.specs.Exponential.{constant_lower}
use Rattle.number_exponential.specs.Units.{grid_of}
use Rattle.number_exp_constants.proofs.whole_part.Goals as goal

pub returns-in-Fine : goal.returns-in-Fine
unfolding grid_of
returns-in-Fine c = c.fine_part.ensures ∙ sym (ap (λ b. constant_lower (grid_of b) c.before.before.args.n) c.before.in-Fine.is)

pub returns-in-Coarse : goal.returns-in-Coarse
unfolding grid_of
returns-in-Coarse c = c.coarse_part.ensures ∙ sym (ap (λ b. constant_lower (grid_of b) c.before.before.args.n) c.before.in-Coarse.is)
