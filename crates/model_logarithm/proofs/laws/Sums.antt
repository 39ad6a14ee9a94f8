-- The sum of u^k/k and its remainder: both grow with u, the sum grows with the order, and at u ≤ 1/2 the sum and twice the
-- term after its last fall with the order.
use Rattle.std.proofs.Common.{subst, mul-le-mul, mul-le-mul_right, le_refl, lt_of_not-le, add-zero, add-suc, pow-suc}
use Rattle.std.specs.Prelude.{ℕ, zero, suc, ◌+◌, ◌*◌, ◌^◌, ◌≤◌}
use Rattle.std.proofs.Math.Nat.{le_dest, pow-zero}
use Rattle.std.proofs.Math.Decide.{dec_le}
use native.Mathlib.Omega.{arith}
use Rattle.number_fraction.specs.Ratio.{Ratio, ◌≤/◌, ◌+/◌, ◌*/◌, whole/}
use Rattle.number_fraction.proofs.laws.RatioLaws.{≤/-refl, ≤/-trans, ≤/-+/, +/-mono}
use Rattle.model_logarithm.specs.Exact.{log_term, log_sum}
use Rattle.model_logarithm.proofs.laws.Half.{half, log_reach}

-- ---- growing with u

-- (p/q)^k ≤ (p'/q')^k
pub powers-cross : (p q p' q' k : ℕ) → p * q' ≤ p' * q → p ^ k * q' ^ k ≤ p' ^ k * q ^ k
powers-cross p q p' q' zero h = rw (pow-zero p, pow-zero q', pow-zero p', pow-zero q) (le_refl _)
powers-cross p q p' q' (suc k) h =
    rw (pow-suc p k, pow-suc q' k, pow-suc p' k, pow-suc q k)
    (join (p ^ k) (q ^ k) (p' ^ k) (q' ^ k) (powers-cross p q p' q' k h))
  where
    join : (a b c d : ℕ) → a * d ≤ c * b → a * p * (d * q') ≤ c * p' * (b * q)
    join a b c d l = omega (arith, mul-le-mul l h)

over : (a b c d n : ℕ) → a * d ≤ c * b → a * (d * n) ≤ c * (b * n)
over a b c d n h = omega (arith, mul-le-mul_right n h)

pub log-term-monotone : {u v : Ratio} (k : ℕ) → u ≤/ v → log_term u k ≤/ log_term v k
unfolding log_term
log-term-monotone {u} {v} k h =
    record { cross = over _ _ _ _ (suc k) (powers-cross u.num u.den v.num v.den (suc k) h.cross) }

pub log-sum-monotone : {u v : Ratio} (j : ℕ) → u ≤/ v → log_sum u j ≤/ log_sum v j
unfolding log_sum
log-sum-monotone zero h = ≤/-refl _
log-sum-monotone (suc j) h = +/-mono (log-sum-monotone j h) (log-term-monotone j h)

-- ---- growing with the order

rises_by : (u : Ratio) (i k : ℕ) → log_sum u i ≤/ log_sum u (i + k)
unfolding log_sum
rises_by u i zero = rw (add-zero i) (≤/-refl _)
rises_by u i (suc k) = rw (add-suc i k) (≤/-trans (rises_by u i k) (≤/-+/ _ _))

pub log-sum-rises : (u : Ratio) (i j : ℕ) → i ≤ j → log_sum u i ≤/ log_sum u j
log-sum-rises u i j h = rw (← (le_dest h).1) (rises_by u i (le_dest h).0)

-- ---- at u ≤ 1/2

-- 2·u^(k+2)/(k+2) ≤ u^(k+1)/(k+1)
term-halves-algebra : (p q a b k : ℕ) → 2 * p ≤ q → 2 * (a * p) * (b * suc k) ≤ a * (1 * (b * q * suc (suc k)))
term-halves-algebra p q a b k h = omega (arith, mul-le-mul_right (a * b * suc k) h)

pub log-term-halves : (u : Ratio) (k : ℕ) → u ≤/ half → whole/ 2 */ log_term u (suc k) ≤/ log_term u k
unfolding log_term whole/ ◌*/◌ half
log-term-halves u k h =
    record {
      cross =
          rw (pow-suc u.num (suc k), pow-suc u.den (suc k))
          (term-halves-algebra u.num u.den (u.num ^ suc k) (u.den ^ suc k) k (omega (arith, h.cross)));
    }

twice : (s t r : Ratio) → r ≤/ t → (s +/ t) +/ r ≤/ s +/ (whole/ 2 */ t)
twice s t r h = ≤/-trans (+/-mono (≤/-refl (s +/ t)) h) (double s t)
  where
    double : (s t : Ratio) → (s +/ t) +/ t ≤/ s +/ (whole/ 2 */ t)
    double s t = unfold ◌+/◌ ◌*/◌ whole/ in omega arith

log-reach-falls-by : (u : Ratio) (i k : ℕ) → u ≤/ half → log_reach u (i + k) ≤/ log_reach u i
unfolding log_reach log_sum
log-reach-falls-by u i zero h = rw (add-zero i) (≤/-refl _)
log-reach-falls-by u i (suc k) h =
    rw (add-suc i k)
    (≤/-trans (twice (log_sum u (i + k)) (log_term u (i + k)) _ (log-term-halves u (i + k) h)) (log-reach-falls-by u i k h))

pub log-reach-falls : (u : Ratio) (i j : ℕ) → u ≤/ half → i ≤ j → log_reach u j ≤/ log_reach u i
log-reach-falls u i j h l =
    let d = le_dest l in subst (λ (m : ℕ). log_reach u m ≤/ log_reach u i) d.1 (log-reach-falls-by u i d.0 h)

-- so every order's sum is at most any order's reach
pub log-sum-below-reach : (u : Ratio) (i j : ℕ) → u ≤/ half → log_sum u j ≤/ log_reach u i
unfolding log_reach
log-sum-below-reach u i j h =
    elim (dec_le j i) [
      | yes l ↦ ≤/-trans (log-sum-rises u j i l) (≤/-+/ _ _)
      | no l ↦
          ≤/-trans (≤/-+/ (log_sum u j) (whole/ 2 */ log_term u j))
          (log-reach-falls u i j h (omega (arith, lt_of_not-le l)))
    ]
