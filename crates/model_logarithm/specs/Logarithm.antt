-- The logarithm's sum on a grid (paper 01, "The grid", closure): "With u the force at y, .. the sum of u^k/k, k = 1 to 28,
-- powers (u times the power before, over 10^9) and quotients outward; the upper end adds twice the 29th power's upper end over
-- 29, rounded up." The number of terms is the grid's.
use Rattle.std.specs.Prelude.{ℕ, zero, suc, ◌+◌, ◌*◌, ◌/◌, pos, ◌+ℤ◌}
use Rattle.number_whole.specs.Division.{ceil_div_ℕ}
use Rattle.number_whole.specs.declared.SignedEnds.{SignedEnds}
use Rattle.number_exponential.specs.Grid.{Grid}
use Rattle.number_exponential.specs.declared.Ends.{Ends}

-- u^k in units, rounded down and up at each step: u^0 is the unit, u^1 is u itself
unfoldable pub power_lower : Grid → ℕ → ℕ → ℕ
power_lower g u zero = g.unit
power_lower g u (suc k) = u * power_lower g u k / g.unit

unfoldable pub power_upper : Grid → ℕ → ℕ → ℕ
power_upper g u zero = g.unit
power_upper g u (suc k) = ceil_div_ℕ (u * power_upper g u k) g.unit

-- the sum of u^k/k for k = 1 to n, outward
unfoldable pub log_terms_lower : Grid → ℕ → ℕ → ℕ
log_terms_lower g u zero = 0
log_terms_lower g u (suc n) = log_terms_lower g u n + power_lower g u (suc n) / suc n

unfoldable pub log_terms_upper : Grid → ℕ → ℕ → ℕ
log_terms_upper g u zero = 0
log_terms_upper g u (suc n) = log_terms_upper g u n + ceil_div_ℕ (power_upper g u (suc n)) (suc n)

-- twice the power after the last term, over its place, rounded up
unfoldable pub log_rest : Grid → ℕ → ℕ
log_rest g u = ceil_div_ℕ (2 * power_upper g u (suc g.log_terms)) (suc g.log_terms)

-- −ln(1 − u), its two ends
unfoldable pub log_lower : Grid → ℕ → ℕ
log_lower g u = log_terms_lower g u g.log_terms

unfoldable pub log_upper : Grid → ℕ → ℕ
log_upper g u = log_terms_upper g u g.log_terms + log_rest g u

-- H = m + the sum: the inverse logistic of a force with these ends and this log force
unfoldable pub inverse_logistic : Grid → SignedEnds → Ends → SignedEnds
inverse_logistic g m u =
    record { lower = m.lower +ℤ pos (log_lower g u.lower); upper = m.upper +ℤ pos (log_upper g u.upper) }
