use Rattle.std.proofs.Common.{◌≡◌, ℕ, true}
use Rattle.number_exponential.specs.Units.{billionths}
use Rattle.set_series.specs.Series.{kappa_in}
use Rattle.set_limits.specs.InLimits.{all_below, ends_in_limits}
use Rattle.set_limits.proofs.kappa_in_limits.Given as goal

abbrev pub invariant-loop-year : goal.invariant-loop-year
invariant-loop-year l =
    (l.e ≡ kappa_in billionths l.d l.start l._year)
    × (all_below (λ (k : ℕ). ends_in_limits (kappa_in billionths l.d l.start k)) l._year ≡ true)
