-- Kappa exactly (paper 01, "The exact value"; 02, E7): a fraction, in its unit of 10^-9.
use Rattle.std.specs.Prelude.{ℕ, zero, suc}
use Rattle.std.proofs.Common.{lit<}
use Rattle.number_fraction.specs.Fraction.{Fraction, wholeℚ, ◌+ℚ◌, scaleℚ, quotientℚ}
use Rattle.set_params.specs.declared.Params.{Params}
use Rattle.set_series.specs.Series.{coefficient_unit}

-- x/10^8
unfoldable pub per_unit : Fraction → Fraction
per_unit x = quotientℚ x coefficient_unit (lit< tt)

-- kappa in year n: k in the start year, and each year a/10^8 times as much and c more
unfoldable pub exact_kappa : Params → ℕ → Fraction
exact_kappa p zero = wholeℚ p.kappa
exact_kappa p (suc n) = wholeℚ p.c +ℚ per_unit (scaleℚ p.a (exact_kappa p n))
