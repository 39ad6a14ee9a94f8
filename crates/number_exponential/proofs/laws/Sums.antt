-- Sums of every second term: what holds of each term, over unit^k·k!, holds of the sums of the even and of the odd terms,
-- over the one denominator unit^(2h)·(2h)!, with the errors summed.
use Rattle.std.specs.Prelude.{◌≡◌}
use Prim.Native.Nat.{ℕ, zero, suc, ◌+◌, ◌*◌, ◌/◌, ◌^◌, ◌≤◌}
use Rattle.std.proofs.Common.{mul-le-mul_right, mul_assoc}
use Rattle.std.proofs.Math.Nat.{pow-zero}
use native.Mathlib.Omega.{arith}
use Rattle.number_taylor.specs.Taylor.{taylor_den}
use Rattle.number_taylor.specs.Alternating.{double}
use Rattle.number_taylor.proofs.laws.AlternatingSums.{even_num, odd_num}
use Rattle.number_exponential.specs.Exponential.{total, evens, odds}

-- the even terms to 2h; the odd ones below 2h
abbrev pub even_total : (ℕ → ℕ) → ℕ → ℕ
even_total a h = total (λ (i : ℕ). a (double i)) (suc h)

abbrev pub odd_total : (ℕ → ℕ) → ℕ → ℕ
odd_total a h = total (λ (i : ℕ). a (suc (double i))) h

pub double-two : (h : ℕ) → double h ≡ 2 * h
unfolding double
double-two zero = omega arith
double-two (suc h) = omega (arith, double-two h)

half-double : (h : ℕ) → double h / 2 ≡ h
half-double h = omega (arith, double-two h)

half-suc-double : (h : ℕ) → suc (double h) / 2 ≡ h
half-suc-double h = omega (arith, double-two h)

half-suc-suc-double : (h : ℕ) → suc (suc (double h)) / 2 ≡ suc h
half-suc-suc-double h = omega (arith, double-two h)

-- the sums to an even and to an odd last term m
pub evens-even : (a : ℕ → ℕ) (h m : ℕ) → m ≡ double h → evens a m ≡ even_total a h
unfolding evens
evens-even a h m e = rw (e, half-double)

pub evens-odd : (a : ℕ → ℕ) (h m : ℕ) → m ≡ suc (double h) → evens a m ≡ even_total a h
unfolding evens
evens-odd a h m e = rw (e, half-suc-double)

pub odds-even : (a : ℕ → ℕ) (h m : ℕ) → m ≡ double h → odds a m ≡ odd_total a h
unfolding odds
odds-even a h m e = rw (e, half-suc-double)

pub odds-odd : (a : ℕ → ℕ) (h m : ℕ) → m ≡ suc (double h) → odds a m ≡ odd_total a (suc h)
unfolding odds
odds-odd a h m e = rw (e, half-suc-suc-double)

pub total-zero : (n : ℕ) → total (λ (i : ℕ). 0) n ≡ 0
unfolding total
total-zero zero = omega arith
total-zero (suc n) = omega (arith, total-zero n)

-- ---- one term more, over a denominator that is W times as large

join-below : (c U E Ee N D W a e P : ℕ) → c * E * D ≤ c * (U * N) + Ee * D → c * a * (D * W) ≤ c * (U * P) + e * (D * W)
    → c * (E + a) * (D * W) ≤ c * (U * (N * W + P)) + (Ee + e) * (D * W)
join-below c U E Ee N D W a e P h k = omega (arith, mul-le-mul_right W h)

join-above : (c U E Ee N D W a e P : ℕ) → c * (U * N) ≤ (c * E + Ee) * D → c * (U * P) ≤ (c * a + e) * (D * W)
    → c * (U * (N * W + P)) ≤ (c * (E + a) + (Ee + e)) * (D * W)
join-above c U E Ee N D W a e P h k = omega (arith, mul-le-mul_right W h)

-- a term's claim over a denominator that is w times as large
widen-below : (c U D a e P w : ℕ) → c * a * D ≤ c * (U * P) + e * D → c * a * (D * w) ≤ c * (U * (P * w)) + e * (D * w)
widen-below c U D a e P w h = omega (arith, mul-le-mul_right w h)

widen-above : (c U D a e P w : ℕ) → c * (U * P) ≤ (c * a + e) * D → c * (U * (P * w)) ≤ (c * a + e) * (D * w)
widen-above c U D a e P w h = omega (arith, mul-le-mul_right w h)

-- each term is at most the exact one and its error, or at least the exact one less its error; c times, over unit^k·k!
abbrev pub Below : ℕ → ℕ → ℕ → (ℕ → ℕ) → (ℕ → ℕ) → Type 0
Below U f c a e = (k : ℕ) → c * a k * taylor_den U k ≤ c * (U * f ^ k) + e k * taylor_den U k

abbrev pub Above : ℕ → ℕ → ℕ → (ℕ → ℕ) → (ℕ → ℕ) → Type 0
Above U f c a e = (k : ℕ) → c * (U * f ^ k) ≤ (c * a k + e k) * taylor_den U k

module _ (U f c : ℕ) (a e : ℕ → ℕ) where
  pub even-sum-below : Below U f c a e → (h : ℕ)
      → c * even_total a h * taylor_den U (double h) ≤ c * (U * even_num f U h) + even_total e h * taylor_den U (double h)
  unfolding total double even_num taylor_den
  even-sum-below t zero = let h : c * a 0 * 1 ≤ c * (U * 1) + e 0 * 1 = rw (pow-zero f) at (t 0) in omega arith
  even-sum-below t (suc h) =
      rw (mul_assoc (taylor_den U (double h)) (U * suc (double h)) (U * suc (suc (double h))))
      (join-below c U (even_total a h) (even_total e h) (even_num f U h) (taylor_den U (double h)) _ _ _ _ (even-sum-below t h)
      (rw (mul_assoc (taylor_den U (double h)) (U * suc (double h)) (U * suc (suc (double h)))) at
      (t (suc (suc (double h))))))

  pub even-sum-above : Above U f c a e → (h : ℕ)
      → c * (U * even_num f U h) ≤ (c * even_total a h + even_total e h) * taylor_den U (double h)
  unfolding total double even_num taylor_den
  even-sum-above t zero = let h : c * (U * 1) ≤ (c * a 0 + e 0) * 1 = rw (pow-zero f) at (t 0) in omega arith
  even-sum-above t (suc h) =
      rw (mul_assoc (taylor_den U (double h)) (U * suc (double h)) (U * suc (suc (double h))))
      (join-above c U (even_total a h) (even_total e h) (even_num f U h) (taylor_den U (double h)) _ _ _ _ (even-sum-above t h)
      (rw (mul_assoc (taylor_den U (double h)) (U * suc (double h)) (U * suc (suc (double h)))) at
      (t (suc (suc (double h))))))

  pub odd-sum-below : Below U f c a e → (h : ℕ)
      → c * odd_total a h * taylor_den U (double h) ≤ c * (U * odd_num f U h) + odd_total e h * taylor_den U (double h)
  unfolding total double odd_num taylor_den
  odd-sum-below t zero = omega arith
  odd-sum-below t (suc h) =
      rw (mul_assoc (taylor_den U (double h)) (U * suc (double h)) (U * suc (suc (double h))))
      (join-below c U (odd_total a h) (odd_total e h) (odd_num f U h) (taylor_den U (double h)) _ _ _ _ (odd-sum-below t h)
      (rw (mul_assoc (taylor_den U (double h)) (U * suc (double h)) (U * suc (suc (double h)))) at
      (widen-below c U (taylor_den U (suc (double h))) _ _ _ (U * suc (suc (double h))) (t (suc (double h))))))

  pub odd-sum-above : Above U f c a e → (h : ℕ)
      → c * (U * odd_num f U h) ≤ (c * odd_total a h + odd_total e h) * taylor_den U (double h)
  unfolding total double odd_num taylor_den
  odd-sum-above t zero = omega arith
  odd-sum-above t (suc h) =
      rw (mul_assoc (taylor_den U (double h)) (U * suc (double h)) (U * suc (suc (double h))))
      (join-above c U (odd_total a h) (odd_total e h) (odd_num f U h) (taylor_den U (double h)) _ _ _ _ (odd-sum-above t h)
      (rw (mul_assoc (taylor_den U (double h)) (U * suc (double h)) (U * suc (suc (double h)))) at
      (widen-above c U (taylor_den U (suc (double h))) _ _ _ (U * suc (suc (double h))) (t (suc (double h))))))
