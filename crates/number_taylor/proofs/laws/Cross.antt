-- Fractions a/b ordered by cross multiplication, over whole numbers: chains of them.
use Rattle.std.specs.Prelude.{ℕ, zero, suc, ◌+◌, ◌*◌, ◌≤◌, ◌<◌}
use Rattle.std.proofs.Common.{mul-le-mul_right, le_of_mul-le-mul_right, le_refl, add-zero, add-suc, arith}
use Rattle.std.proofs.Math.Nat.{le_dest}

-- a/b ≤ c/d and c/d ≤ e/f give a/b ≤ e/f
pub cross-trans : (a b c d e f : ℕ) → 0 < d → a * d ≤ c * b → c * f ≤ e * d → a * f ≤ e * b
cross-trans a b c d e f h x y =
    le_of_mul-le-mul_right {k = d} (omega (arith, mul-le-mul_right f x, mul-le-mul_right b y)) h

-- a sequence of fractions that does not fall from one index to the next does not fall
module _ (num den : ℕ → ℕ) (positive : (i : ℕ) → 0 < den i)
    (step : (i : ℕ) → num i * den (suc i) ≤ num (suc i) * den i) where
  rises_by : (i k : ℕ) → num i * den (i + k) ≤ num (i + k) * den i
  rises_by i zero = rw add-zero (le_refl (num i * den i))
  rises_by i (suc k) = rw add-suc
      (cross-trans (num i) (den i) (num (i + k)) (den (i + k)) (num (suc (i + k))) (den (suc (i + k)))
      (positive (i + k)) (rises_by i k) (step (i + k)))

  pub rises : (i j : ℕ) → i ≤ j → num i * den j ≤ num j * den i
  rises i j h = rw (← (le_dest h).1) (rises_by i (le_dest h).0)
