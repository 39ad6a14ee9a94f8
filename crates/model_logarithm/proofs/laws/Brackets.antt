-- The brackets of −ln(1 − u) for u below 1, order by order: every lower end is at most every upper end, the ends close in
-- as the order grows, and both grow with u.
use Rattle.std.specs.Prelude.{◌≡◌, ℕ, zero, suc, ◌+◌, ◌-◌, ◌*◌, ◌^◌, ◌≤◌, max}
use Rattle.std.proofs.Common.{ap, subst, mul-le-mul_left, lt_of_not-le, add-zero, add-suc, pow-suc, arith}
use Rattle.std.proofs.Math.Nat.{max-eq_right, le_dest}
use Rattle.std.proofs.Math.Decide.{dec_le}
use Rattle.number_fraction.specs.Ratio.{Ratio, ◌≤/◌, ◌</◌, ◌+/◌, whole/}
use Rattle.number_fraction.proofs.laws.RatioLaws.{≤/-refl, ≤/-trans, ≤/-+/, +/-mono, +/-assoc}
use Rattle.model_logarithm.specs.Exact.{log_term, log_sum, log_remainder, order_log_lower, order_log_upper}
use Rattle.model_logarithm.proofs.laws.Sums.{log-sum-monotone, log-sum-rises}

-- u^n/n + u^(n+1)/((n+1)(1−u)) ≤ u^n/(n(1−u)): P = p^n, Q = q^(n−1), m = q − p
rest-algebra : (P Q p q m n : ℕ) → p + m ≡ q
    → (P * (Q * q * (suc n * m)) + P * p * (Q * q * n)) * (Q * (n * m)) ≤ P * (Q * q * n * (Q * q * (suc n * m)))
rest-algebra P Q p q m n h =
    let a : suc n * m + p * n ≤ q * suc n = omega (arith, ap (λ (x : ℕ). x * suc n) h) in
    omega (arith, mul-le-mul_left (P * (Q * (Q * (q * (n * m))))) a)

pub log-remainder-step : (u : Ratio) (j : ℕ) → u </ whole/ 1 → log_term u j +/ log_remainder u (suc j) ≤/ log_remainder u j
unfolding log_term log_remainder ◌+/◌ whole/
log-remainder-step u j l =
    let a : max 1 (u.den - u.num) ≡ u.den - u.num = max-eq_right (omega (arith, l.cross)) in
    record {
      cross =
          rw (pow-suc u.num (suc j), pow-suc u.den j)
          (rest-algebra (u.num ^ suc j) (u.den ^ j) u.num u.den _ (suc j) (omega (arith, l.cross)));
    }

-- the lower end rises with the order, the upper end falls
pub log-lower-rises : (u : Ratio) (i j : ℕ) → i ≤ j → order_log_lower u i ≤/ order_log_lower u j
unfolding order_log_lower
log-lower-rises = log-sum-rises

falls-by : (u : Ratio) (i k : ℕ) → u </ whole/ 1 → order_log_upper u (i + k) ≤/ order_log_upper u i
unfolding order_log_upper log_sum
falls-by u i zero l = rw (add-zero i) (≤/-refl _)
falls-by u i (suc k) l =
    rw (add-suc i k)
    (≤/-trans (+/-assoc (log_sum u (i + k)) (log_term u (i + k)) (log_remainder u (suc (i + k)))).below
    (≤/-trans (+/-mono (≤/-refl (log_sum u (i + k))) (log-remainder-step u (i + k) l)) (falls-by u i k l)))

pub log-upper-falls : (u : Ratio) (i j : ℕ) → u </ whole/ 1 → i ≤ j → order_log_upper u j ≤/ order_log_upper u i
log-upper-falls u i j l h =
    let d = le_dest h in subst (λ (m : ℕ). order_log_upper u m ≤/ order_log_upper u i) d.1 (falls-by u i d.0 l)

-- every lower end is at most every upper end
pub log-brackets-agree : (u : Ratio) (i j : ℕ) → u </ whole/ 1 → order_log_lower u i ≤/ order_log_upper u j
log-brackets-agree u i j l =
    elim (dec_le i j) [
      | yes h ↦ ≤/-trans (log-lower-rises u i j h) (within j)
      | no h ↦ ≤/-trans (within i) (log-upper-falls u j i l (omega (arith, lt_of_not-le h)))
    ]
  where
    within : (k : ℕ) → order_log_lower u k ≤/ order_log_upper u k
    within k = unfold order_log_lower order_log_upper in ≤/-+/ _ _

-- and so is every lower end at a force that is no greater
pub log-agrees : {u v : Ratio} (i j : ℕ) → u ≤/ v → v </ whole/ 1 → order_log_lower u i ≤/ order_log_upper v j
log-agrees {u} {v} i j h l = ≤/-trans lower (log-brackets-agree v i j l)
  where
    lower : order_log_lower u i ≤/ order_log_lower v i
    lower = unfold order_log_lower in log-sum-monotone i h
