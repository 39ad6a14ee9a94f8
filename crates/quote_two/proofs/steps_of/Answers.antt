-- `steps_of` meets its contract: a refusal has none, and a quote those of its figure.
use mathlib.Core.Path.{sym, ap, ◌∙◌}
use Rattle.quote_along.specs.QuoteBy.{Answer}
use Rattle.quote.specs.Demand.{figure_shown}
use Rattle.quote_two.specs.code.Code.{steps_shown}
use Rattle.quote_two.proofs.steps_of.Goals as goal

pub returns-in_default : goal.returns-in_default
unfolding steps_shown figure_shown
returns-in_default c = sym (ap (λ (a : Answer). steps_shown (figure_shown a)) c.in_default.is)

pub returns : goal.returns
unfolding figure_shown
returns c =
    c.figure_steps.ensures
    ∙ sym (ap (λ (a : Answer). steps_shown (figure_shown a)) c.in-Ok.is)
