-- The bound on the force under which the logarithm's terms fall by halves, and what then bounds the terms left out.
use Rattle.std.specs.Prelude.{ℕ}
use Rattle.std.proofs.Common.{lit<}
use Rattle.number_fraction.specs.Ratio.{Ratio, ◌+/◌, ◌*/◌, whole/}
use Rattle.model_logarithm.specs.Exact.{log_term, log_sum}

-- 1/2
unfoldable pub half : Ratio
half = record { num = 1; den = 2; positive = lit< tt }

-- the sum and twice the term after its last
unfoldable pub log_reach : Ratio → ℕ → Ratio
log_reach u j = log_sum u j +/ (whole/ 2 */ log_term u j)

-- the order from which the remainder of −ln(1 − u), u ≤ 1/2, is at most 1/M
unfoldable pub log_order : ℕ → ℕ
log_order M = M
