-- A quotient with two ends (paper 01, "The grid"): "A lower end is rounded down .., an upper end up." Of two numbers over d.
use Rattle.std.specs.Prelude.{ℕ, ◌/◌}
use Rattle.number_whole.specs.Division.{ceil_div_ℕ}
use Rattle.number_exponential.specs.declared.Ends.{Ends}

unfoldable pub outward_over : ℕ → ℕ → ℕ → Ends
outward_over least greatest d = record { lower = least / d; upper = ceil_div_ℕ greatest d }
