-- The logarithm exactly (paper 01, "The exact value"): "The logarithm sum to j has a remainder from 0 to
-- u^(j+1)/((j+1)(1−u))."
use Rattle.std.specs.Prelude.{ℕ, zero, suc, ◌*◌, ◌-◌, ◌^◌, max}
use Rattle.number_fraction.specs.Ratio.{Ratio, ◌+/◌, whole/}
use Rattle.model_logarithm.specs.Positive.{term-positive, rest-positive}

-- the k-th term counted from 0: u^(k+1)/(k+1)
unfoldable pub log_term : Ratio → ℕ → Ratio
log_term u k = record { num = u.num ^ suc k; den = u.den ^ suc k * suc k; positive = term-positive u.den k u.positive }

-- the sum of u^k/k for k = 1 to j
unfoldable pub log_sum : Ratio → ℕ → Ratio
log_sum u zero = whole/ 0
log_sum u (suc j) = log_sum u j +/ log_term u j

-- u^(j+1)/((j+1)(1−u)), for u below 1, as the force of every cell in range is
unfoldable pub log_remainder : Ratio → ℕ → Ratio
log_remainder u j =
    record {
      num = u.num ^ suc j;
      den = u.den ^ j * (suc j * max 1 (u.den - u.num));
      positive = rest-positive u.den j (u.den - u.num) u.positive;
    }

-- an order's two ends of −ln(1 − u)
unfoldable pub order_log_lower : Ratio → ℕ → Ratio
order_log_lower u j = log_sum u j

unfoldable pub order_log_upper : Ratio → ℕ → Ratio
order_log_upper u j = log_sum u j +/ log_remainder u j
