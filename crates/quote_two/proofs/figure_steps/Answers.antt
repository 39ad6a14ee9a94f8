-- `figure_steps` meets its contract, case by case.
use mathlib.Core.Path.{sym, ap}
use Rattle.number_exact.specs.declared.Figure.{Figure}
use Rattle.quote.specs.Demand.{shown_of}
use Rattle.quote_two.specs.code.Code.{steps_shown}
use Rattle.quote_two.proofs.figure_steps.Goals as goal

pub returns-in-Printed : goal.returns-in-Printed
unfolding steps_shown shown_of
returns-in-Printed c = sym (ap (λ (f : Figure). steps_shown (shown_of f)) c.in-Printed.is)

pub returns-in-Open : goal.returns-in-Open
unfolding steps_shown shown_of
returns-in-Open c = sym (ap (λ (f : Figure). steps_shown (shown_of f)) c.in-Open.is)
