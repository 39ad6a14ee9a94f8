-- How far from zero a number and two signed ends lie, for overflow.
use Rattle.std.specs.Prelude.{ℕ, ◌+◌, ◌*◌, ◌^◌, ◌≤◌, ◌<◌, ℤ, nat_abs}
use Rattle.number_whole.specs.declared.SignedEnds.{SignedEnds}

-- |z| ≤ k
pub record Under (z : ℤ) (k : ℕ) : Type 0 where
  pub under : nat_abs z ≤ k

-- both ends lie within k of 0
pub record Within (k : ℕ) (e : SignedEnds) : Type 0 where
  pub low : Under e.lower k
  pub high : Under e.upper k

-- z lies within k multiples of d, which leave room for one more
pub record Divides (z : ℤ) (d k : ℕ) : Type 0 where
  pub some : 1 < d
  pub within : Under z (k * d)
  pub room : k * d + d ≤ 2 ^ 63
