-- The widths over factors that are each at most w apart, by the plain sum: w + 2 units a factor for a survival, and for an
-- expectancy those of the survivals over one factor, over two, and so on.
use Rattle.std.specs.Prelude.{List, ℕ, zero, suc, ◌+◌, ◌*◌, ◌≤◌, ◌<◌, length, take}
use Rattle.std.proofs.Math.Nat.{le_trans}
use Rattle.std.proofs.Common.{mul-le-mul, mul-le-mul_left, length-take}
use native.Mathlib.Omega.{arith}
use Rattle.number_exponential.specs.Exponential.{total}
use Rattle.number_folds.specs.laws.Each.{Each, none, also, each_take}
use Rattle.number_folds.proofs.laws.Width.{spread, spreads}

-- c, 2·c and so on to n·c
plain-sum : (c : ℕ) (f : ℕ → ℕ) (n : ℕ) → ((k : ℕ) → k < n → f k ≤ c * suc k) → 2 * total f n ≤ c * (n * suc n)
unfolding total
plain-sum c f zero h = omega arith
plain-sum c f (suc n) h = omega (arith, plain-sum c f n (λ k l. h k (omega arith)), h n (omega arith))

module _ (w : ℕ) where
  spread-length : {ws : List ℕ} → Each (λ (v : ℕ). v ≤ w) ws → spread ws ≤ (w + 2) * length ws
  unfolding spread
  spread-length none = omega arith
  spread-length (also l h) = omega (arith, spread-length h)

  -- over at most k factors
  pub spread-plain : {ws : List ℕ} → Each (λ (v : ℕ). v ≤ w) ws → {k : ℕ} → length ws ≤ k → spread ws ≤ (w + 2) * k
  spread-plain h l = le_trans (spread-length h) (mul-le-mul_left (w + 2) l)

  pub spreads-plain : {ws : List ℕ} → Each (λ (v : ℕ). v ≤ w) ws → {k : ℕ} → length ws ≤ k
      → 2 * spreads ws ≤ (w + 2) * (k * suc k)
  unfolding spreads
  spreads-plain {ws} h {k} l =
      le_trans
      (plain-sum (w + 2) (λ (i : ℕ). spread (take (suc i) ws)) (length ws)
      (λ i b. spread-plain (each_take (suc i) h) (rw (length-take (suc i) ws) (omega arith))))
      (mul-le-mul_left (w + 2) (mul-le-mul l (omega arith)))
