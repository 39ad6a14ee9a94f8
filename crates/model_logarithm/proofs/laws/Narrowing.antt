-- The logarithm's orders narrow with the force and with the order: at forces of at most 1/2 the sums lie at most twice as
-- far apart as the forces, and the remainder is at most 1/M from some order on.
use Rattle.std.specs.Prelude.{◌≡◌, ℕ, zero, suc, ◌+◌, ◌*◌, ◌^◌, ◌≤◌, ◌<◌}
use Rattle.std.proofs.Common.{inl, inr, mul-le-mul, mul-le-mul_left, mul-le-mul_right, le_refl, le_trans, pow-suc, arith}
use Rattle.std.proofs.Math.Nat.{one-le-pow, pow-succ', pow-zero}
use Rattle.number_fraction.specs.Ratio.{Ratio, ◌≤/◌, ◌+/◌, ◌*/◌, whole/, quotient/}
use Rattle.number_fraction.proofs.laws.RatioLaws.{≤/-refl, ≤/-trans, ≤/-total, ≤/-+/, +/-mono}
use Rattle.model_logarithm.specs.Exact.{log_term, log_sum, log_remainder, order_log_lower, order_log_upper}
use Rattle.model_logarithm.proofs.laws.Half.{half, log_order}
use Rattle.model_logarithm.proofs.laws.Sums.{log-sum-monotone}

-- ---- the sums

-- e/2^k
halved : Ratio → ℕ → Ratio
halved e k = quotient/ e (2 ^ k) (one-le-pow k 2 (omega arith))

-- (p/q)^(k+1) ≤ (a/b)^(k+1) + (k+1)·(c/d)/2^k: A = 2^k, P/Q and L/B the powers
force-step : (p q a b c d W Q B : ℕ) → p * (b * d) ≤ (a * d + c * b) * q → 2 * W ≤ B
    → 2 * (W * Q * d * (p * b)) ≤ 2 * (W * a * (Q * q) * d) + c * Q * B * (q * b)
force-step p q a b c d W Q B e l = omega (arith, mul-le-mul_left (2 * W * Q) e, mul-le-mul_right (Q * c * b * q) l)

power-step : (p q b x y z m k : ℕ) → x ≤ y + suc k * z → 2 * p ≤ q → 2 * (y * (p * b)) ≤ m + z * (q * b)
    → 2 * (x * (p * b)) ≤ m + suc (suc k) * (z * (q * b))
power-step p q b x y z m k i h l = omega (arith, mul-le-mul_left (2 * p * b) i, mul-le-mul_left (suc k * z * b) h)

power-algebra : (p q a b c d A P Q L B k : ℕ) → 2 * p ≤ q → p * (b * d) ≤ (a * d + c * b) * q → 2 * A * L ≤ B
    → A * P * B * d ≤ A * L * Q * d + suc k * (c * Q * B)
    → 2 * A * (P * p) * (B * b) * d ≤ 2 * A * (L * a) * (Q * q) * d + suc (suc k) * (c * (Q * q) * (B * b))
power-algebra p q a b c d A P Q L B k h e l i =
    omega (
      arith,
      power-step p q b (A * P * B * d) (A * L * Q * d) (c * Q * B) (2 * (A * L * a * (Q * q) * d)) k i h
          (force-step p q a b c d (A * L) Q B e (omega arith)),
    )

halves-power : (a b k : ℕ) → 2 * a ≤ b → 2 ^ k * a ^ k ≤ b ^ k
halves-power a b zero h = rw (pow-zero a, pow-zero b) (le_refl 1)
halves-power a b (suc k) h =
    rw (pow-suc 2 k, pow-suc a k, pow-suc b k) (join (2 ^ k) (a ^ k) (b ^ k) (halves-power a b k h))
  where
    join : (A x y : ℕ) → A * x ≤ y → A * 2 * (x * a) ≤ y * b
    join A x y l = omega (arith, mul-le-mul l h)

power-near : (p q a b c d : ℕ) → 2 * p ≤ q → 2 * a ≤ b → p * (b * d) ≤ (a * d + c * b) * q → (k : ℕ)
    → 2 ^ k * p ^ suc k * b ^ suc k * d ≤ 2 ^ k * a ^ suc k * q ^ suc k * d + suc k * (c * q ^ suc k * b ^ suc k)
power-near p q a b c d h l e zero =
    rw (pow-suc p 0, pow-suc b 0, pow-suc a 0, pow-suc q 0, pow-zero p, pow-zero b, pow-zero a, pow-zero q) (omega arith)
power-near p q a b c d h l e (suc k) =
    rw (pow-succ' 2 k, pow-suc p (suc k), pow-suc b (suc k), pow-suc a (suc k), pow-suc q (suc k))
    (power-algebra p q a b c d (2 ^ k) (p ^ suc k) (q ^ suc k) (a ^ suc k) (b ^ suc k) k h e
    (rw (pow-succ' 2 k) at (halves-power a b (suc k) l)) (power-near p q a b c d h l e k))

-- a term's claim: A = 2^k
term-algebra : (A P Q L B c d n : ℕ) → A * P * B * d ≤ A * L * Q * d + n * (c * Q * B)
    → P * (B * n * (d * A)) ≤ (L * (d * A) + c * (B * n)) * (Q * n)
term-algebra A P Q L B c d n h = omega (arith, mul-le-mul_right n h)

term-near : {v l : Ratio} (e : Ratio) (k : ℕ) → v ≤/ half → l ≤/ half → v ≤/ l +/ e → log_term v k ≤/ log_term l k +/ halved e k
unfolding log_term halved quotient/ ◌+/◌ half
term-near {v} {l} e k h i n =
    record {
      cross =
          term-algebra (2 ^ k) (v.num ^ suc k) (v.den ^ suc k) (l.num ^ suc k) (l.den ^ suc k) e.num e.den
          (suc k)
          (power-near v.num v.den l.num l.den e.num e.den
          (omega (arith, h.cross)) (omega (arith, i.cross)) n.cross k);
    }

-- e/2^(k+1) twice is e/2^k
halved-twice : (e : Ratio) (k : ℕ) → halved e (suc k) +/ halved e (suc k) ≤/ halved e k
unfolding halved quotient/ ◌+/◌
halved-twice e k = record { cross = twice e.num e.den (2 ^ k) (2 ^ suc k) (pow-suc 2 k) }
  where
    twice : (n d A B : ℕ) → B ≡ A * 2 → (n * (d * B) + n * (d * B)) * (d * A) ≤ n * (d * B * (d * B))
    twice n d A B h = rw h (omega arith)

first_halves : (e : Ratio) → halved e 0 +/ halved e 0 ≤/ whole/ 2 */ e
unfolding halved quotient/ ◌+/◌ whole/ ◌*/◌
first_halves e = omega arith

regroup : (s t x : Ratio) → (s +/ (t +/ x)) +/ x ≤/ (s +/ (x +/ x)) +/ t
unfolding ◌+/◌
regroup s t x = omega arith

exchange : (s t x : Ratio) → (s +/ x) +/ t ≤/ (s +/ t) +/ x
unfolding ◌+/◌
exchange s t x = omega arith

sum-near-below : {v l : Ratio} (e : Ratio) (j : ℕ) → v ≤/ half → l ≤/ half → v ≤/ l +/ e
    → log_sum v j +/ (halved e j +/ halved e j) ≤/ log_sum l j +/ (whole/ 2 */ e)
unfolding log_sum
sum-near-below {v} {l} e zero h i n = +/-mono (≤/-refl (whole/ 0)) (first_halves e)
sum-near-below {v} {l} e (suc j) h i n =
    ≤/-trans (+/-mono (+/-mono (≤/-refl (log_sum v j)) (term-near e j h i n)) (halved-twice e j))
    (≤/-trans (regroup (log_sum v j) (log_term l j) (halved e j))
    (≤/-trans (+/-mono (sum-near-below e j h i n) (≤/-refl (log_term l j)))
    (exchange (log_sum l j) (log_term l j) (whole/ 2 */ e))))

-- where v ≤ l + e, the sums differ by at most 2·e
pub log-sum-near : {v : Ratio} (l e : Ratio) (j : ℕ) → v ≤/ half → v ≤/ l +/ e → log_sum v j ≤/ log_sum l j +/ (whole/ 2 */ e)
log-sum-near {v} l e j h n =
    elim (≤/-total l v) [
      | inl i ↦ ≤/-trans (≤/-+/ _ _) (sum-near-below e j h (≤/-trans i h) n)
      | inr i ↦ ≤/-trans (log-sum-monotone j i) (≤/-+/ _ _)
    ]

-- ---- the remainder

two-pow-above : (k : ℕ) → k ≤ 2 ^ k
two-pow-above zero = omega arith
two-pow-above (suc k) = rw (pow-suc 2 k) (omega (arith, two-pow-above k, one-le-pow k 2 (omega arith)))

remainder-algebra : (p P Q A M d n : ℕ) → A * P ≤ Q → M ≤ A → p ≤ d → P * p * (1 * M) ≤ 1 * (Q * (suc n * d))
remainder-algebra p P Q A M d n h k l =
    omega (arith, mul-le-mul_right p h, mul-le-mul_left (P * p) k, mul-le-mul_left Q l)

-- the remainder at a force of at most 1/2 is at most 1/M
pub log-remainder-narrow : (M : ℕ) (h : 0 < M) (v : Ratio) (j : ℕ) → v ≤/ half → log_order M ≤ j
    → log_remainder v j ≤/ quotient/ (whole/ 1) M h
unfolding log_remainder quotient/ whole/ half log_order
log-remainder-narrow M h v j l k =
    record {
      cross =
          rw (pow-suc v.num j)
          (remainder-algebra v.num (v.num ^ j) (v.den ^ j) (2 ^ j) M _ j
          (halves-power v.num v.den j (omega (arith, l.cross)))
          (le_trans k (two-pow-above j)) (omega (arith, l.cross)));
    }

-- the upper end at v is at most the lower end at l, 2·e and 1/M
pub log-narrow : (M : ℕ) (h : 0 < M) {v : Ratio} (l e : Ratio) (j : ℕ) → v ≤/ half → v ≤/ l +/ e → log_order M ≤ j
    → order_log_upper v j ≤/ order_log_lower l j +/ (whole/ 2 */ e) +/ quotient/ (whole/ 1) M h
unfolding order_log_upper order_log_lower
log-narrow M h {v} l e j i n k = +/-mono (log-sum-near l e j i n) (log-remainder-narrow M h v j i k)
