-- Whole multiples of one fraction: they keep a sum of small errors readable.
use Rattle.std.specs.Prelude.{ℕ, suc, ◌+◌, ◌*◌, ◌≤◌, ◌<◌}
use Rattle.std.proofs.Common.{mul-le-mul_right, arith}
use Rattle.number_fraction.specs.Ratio.{Ratio, ◌≤/◌, whole/, quotient/, ◌+/◌, ◌*/◌}

-- n·e
unfoldable pub times : ℕ → Ratio → Ratio
times n e = whole/ n */ e

pub times-one : (e : Ratio) → e ≤/ times 1 e
unfolding times whole/ ◌*/◌
times-one e = record { cross = omega arith }

pub times-suc : (n : ℕ) (e : Ratio) → times n e +/ e ≤/ times (suc n) e
unfolding times whole/ ◌*/◌ ◌+/◌
times-suc n e = record { cross = omega arith }

pub times-plus : (m n : ℕ) (e : Ratio) → times m e +/ times n e ≤/ times (m + n) e
unfolding times whole/ ◌*/◌ ◌+/◌
times-plus m n e = record { cross = omega arith }

pub times-times : (a b : ℕ) (e : Ratio) → whole/ a */ times b e ≤/ times (a * b) e
unfolding times whole/ ◌*/◌
times-times a b e = record { cross = omega arith }

pub times-grows : (a b : ℕ) (e : Ratio) → a ≤ b → times a e ≤/ times b e
unfolding times whole/ ◌*/◌
times-grows a b e h = record { cross = mul-le-mul_right (1 * e.den) (mul-le-mul_right e.num h) }

-- at most n parts of 1/(M·(n + 1)) are at most 1/M
pub times-part : (m n M : ℕ) (h : 0 < M) (k : 0 < M * suc n) → m ≤ n
    → times m (quotient/ (whole/ 1) (M * suc n) k) ≤/ quotient/ (whole/ 1) M h
unfolding times whole/ quotient/ ◌*/◌
times-part m n M h k l = record { cross = omega (arith, mul-le-mul_right M l) }
