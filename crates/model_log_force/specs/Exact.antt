-- The log force exactly (paper 01, "The exact value"): a fraction, in the parameters' unit of 10^-9.
use Rattle.std.specs.Prelude.{ℕ, ◌+ℤ◌, ◌*ℤ◌}
use Rattle.number_fraction.specs.Fraction.{Fraction, wholeℚ, ◌+ℚ◌, scaleℚ}
use Rattle.set_params.specs.declared.Params.{Params}
use Rattle.set_params.specs.Set.{A, B, alpha, beta}
use Rattle.set_series.specs.Series.{period_index}
use Rattle.set_series.specs.Exact.{per_unit, exact_kappa}

-- A + alpha + (B-as-K + beta·kappa)/10^8
unfoldable pub exact_log_force : Params → ℕ → ℕ → Fraction
exact_log_force p x n =
    wholeℚ (A p x +ℤ alpha p x) +ℚ per_unit (wholeℚ (B p x *ℤ period_index p n) +ℚ scaleℚ (beta p x) (exact_kappa p n))
