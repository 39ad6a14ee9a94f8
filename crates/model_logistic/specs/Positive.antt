-- The denominator of 1/(1 + E) is positive.
use Rattle.std.specs.Prelude.{ℕ, ◌+◌, ◌<◌}
use Rattle.std.proofs.Common.{arith}

pub sum-positive : (d n : ℕ) → 0 < d → 0 < d + n
sum-positive d n h = omega arith
