-- `coarse_figure` meets its contract: the figure of 1 less p's ends.
use mathlib.Core.Path.{ap, ◌∙◌}
use native.Mathlib.Omega.{arith}
use Rattle.number_exponential.specs.declared.Ends.{Ends}
use Rattle.number_exponential.specs.Units.{grid_of}
use Rattle.number_exact.specs.Figure.{probability_step, figure_of}
use Rattle.model_force.specs.Force.{death_of}
use Rattle.quote_verdicts.specs.code.Code.{figure_by}
use Rattle.quote_verdicts.proofs.coarse_figure.Goals as goal

pub figure_of-requires : goal.figure_of-requires
unfolding death_of grid_of
figure_of-requires c =
    let e = c.death_of-q.ensures in
    let l = ap (λ (k : Ends). k.lower) e in
    let u = ap (λ (k : Ends). k.upper) e in
    (omega arith, omega arith, omega arith, omega arith)

pub returns : goal.returns
unfolding figure_by grid_of
returns c = c.figure_of.ensures ∙ ap (figure_of probability_step) c.before.death_of-q.ensures
