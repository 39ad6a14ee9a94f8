use Rattle.std.proofs.Common.{◌≡◌}
use Rattle.number_exponential.specs.Units.{grid_of}
use Rattle.set_series.specs.Series.{kappa_in}
use Rattle.set_series.proofs.kappa_at.Given as goal

abbrev pub invariant-loop-year : goal.invariant-loop-year
invariant-loop-year l = l.e ≡ kappa_in (grid_of l.grid) l.d l.start l._year
