-- The denominators of the logarithm's terms and remainder are positive.
use Rattle.std.specs.Prelude.{ℕ, suc, ◌*◌, ◌^◌, ◌<◌, max}
use Rattle.std.proofs.Common.{mul-pos, arith}
use Rattle.std.proofs.Math.Nat.{one-le-pow, le-max_left}

pub term-positive : (q k : ℕ) → 0 < q → 0 < q ^ suc k * suc k
term-positive q k h = mul-pos (one-le-pow (suc k) q h) (omega arith)

pub rest-positive : (q j d : ℕ) → 0 < q → 0 < q ^ j * (suc j * max 1 d)
rest-positive q j d h = mul-pos (one-le-pow j q h) (mul-pos (omega arith) (le-max_left 1 d))
