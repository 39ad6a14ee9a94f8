-- Terms that have run out: from one on whose lower end is 0, and whose upper end is 0 or 1, each further one has the same ends,
-- and what is left of a sum is a count.
use Rattle.std.specs.Prelude.{◌≡◌, refl, ℕ, zero, suc, ◌+◌, ◌*◌, ◌/◌, ◌^◌, ◌≤◌, ◌<◌}
use Rattle.std.proofs.Common.{sym, ap, ◌∙◌, inl, inr, mul-le-mul, add-zero, add-suc, suc-add, zero-mul, zero-lt-suc, eq-zero-or-pos, arith, Fits}
use Rattle.std.proofs.Math.Nat.{zero-div, mul-pos}
use Rattle.std.specs.Int.{w64}
use Rattle.number_whole.specs.Division.{ceil_div_ℕ}
use Rattle.number_whole.proofs.laws.DivisionLaws.{ceilℕ-unique}
use Rattle.number_taylor.specs.Alternating.{double}
use Rattle.number_exponential.specs.Grid.{Grid}
use Rattle.number_exponential.specs.Exponential.{next_lower, next_upper, term_lower, term_upper, total}
use Rattle.number_exponential.proofs.laws.Sums.{even_total, odd_total, double-two}

-- ---- quotients of 0 and 1, rounded up

-- c·f/d is c again, where c is 0, or 1 and f not 0, and f at most d
pub ceil-stays : (c f d : ℕ) → c ≤ 1 → (c ≡ 1 → 0 < f) → f ≤ d → 0 < d → ceil_div_ℕ (c * f) d ≡ c
ceil-stays zero f d h s l p = sym (ceilℕ-unique 0 (zero * f) p (omega arith) (omega arith))
ceil-stays (suc zero) f d h s l p =
    let k = s refl in sym (ceilℕ-unique 1 (suc zero * f) p (omega arith) (omega arith))
ceil-stays (suc (suc c)) f d h s l p = absurd (omega arith)

-- t·0/d is 0
pub ceil-none : (t d : ℕ) → 0 < d → ceil_div_ℕ (t * 0) d ≡ 0
ceil-none t d p = sym (ceilℕ-unique 0 (t * 0) p (omega arith) (omega arith))

-- a small end times a count fits 64 bits, and so does such a product with a sum of ends
pub count_fits : (n : ℕ) {c : ℕ} → n ≤ 100 → c ≤ 2 → Fits w64 (c * n)
count_fits n {c} h k = omega (arith, mul-le-mul k h)

pub sum_fits : (s n : ℕ) {c : ℕ} → s ≤ 10 ^ 16 → n ≤ 100 → c ≤ 2 → Fits w64 (s + c * n)
sum_fits s n {c} l h k = omega (arith, mul-le-mul k h)

-- ---- ends that stay

-- s goes from place to place by s·f/d: rounded down, and rounded up where f is at most each d
module _ (s d : ℕ → ℕ) (f : ℕ) where
  pub lower-stays : ((m : ℕ) → s (suc m) ≡ s m * f / d m) → (k n : ℕ) → s k ≡ 0 → s (k + n) ≡ 0
  lower-stays step k zero e = rw (add-zero k) e
  lower-stays step k (suc n) e =
      rw (add-suc k n)
      (step (k + n) ∙ ap (λ (t : ℕ). t * f / d (k + n)) (lower-stays step k n e) ∙ rw (zero-mul f) (zero-div (d (k + n))))

  module _ (step : (m : ℕ) → s (suc m) ≡ ceil_div_ℕ (s m * f) (d m)) (positive : (m : ℕ) → 0 < d m) (small : (m : ℕ) → f ≤ d m)
    where
      -- an end of 1 is none of f = 0
      some : (k : ℕ) → s (suc k) ≡ 1 → 0 < f
      some k e =
          elim (eq-zero-or-pos f) [
            | inl z ↦ absurd (omega (arith, sym e ∙ step k ∙ ap (λ (x : ℕ). ceil_div_ℕ (s k * x) (d k)) z ∙ ceil-none (s k) (d k) (positive k)))
            | inr p ↦ p
          ]

      pub upper-stays : (k n : ℕ) {c : ℕ} → c ≤ 1 → s (suc k) ≡ c → s (suc k + n) ≡ c
      upper-stays k zero h e = rw (add-zero (suc k)) e
      upper-stays k (suc n) {c} h e =
          let m = suc k + n in
          rw (add-suc (suc k) n)
          (step m ∙ ap (λ (t : ℕ). ceil_div_ℕ (t * f) (d m)) (upper-stays k n h e)
          ∙ ceil-stays c f (d m) h (λ o. some k (e ∙ o)) (small m) (positive m))

-- ---- the terms

module _ (g : Grid) (f : ℕ) where
  divisor : ℕ → ℕ
  divisor k = suc k * g.unit

  pub term-lower-stays : (k n : ℕ) → term_lower g f k ≡ 0 → term_lower g f (k + n) ≡ 0
  unfolding term_lower next_lower divisor
  term-lower-stays = lower-stays (term_lower g f) divisor f (λ m. refl)

  pub term-upper-stays : f ≤ g.unit → (k n : ℕ) {c : ℕ} → c ≤ 1 → term_upper g f (suc k) ≡ c → term_upper g f (suc k + n) ≡ c
  unfolding term_upper next_upper divisor
  term-upper-stays small k n h e =
      upper-stays (term_upper g f) divisor f (λ m. refl) (λ m. mul-pos (zero-lt-suc m) g.positive) (λ m. omega (arith, small)) k n h e

-- ---- their sums

total-run : (a : ℕ → ℕ) (c k n : ℕ) → ((m : ℕ) → a (k + m) ≡ c) → total a (k + n) ≡ total a k + n * c
unfolding total
total-run a c k zero h = rw (add-zero k) (omega arith)
total-run a c k (suc n) h = rw (add-suc k n) (omega (arith, total-run a c k n h, h n))

-- n even terms more, and n odd ones, where each from term 2i + 1 on is c
pub even-run : (a : ℕ → ℕ) (c i n : ℕ) → ((m : ℕ) → a (suc (double i) + m) ≡ c) → even_total a (i + n) ≡ even_total a i + n * c
even-run a c i n h =
    ap (total (λ (j : ℕ). a (double j))) (sym (suc-add i n))
    ∙ total-run (λ (j : ℕ). a (double j)) c (suc i) n (λ m. ap a (place m) ∙ h (1 + 2 * m))
  where
    place : (m : ℕ) → double (suc i + m) ≡ suc (double i) + (1 + 2 * m)
    place m = omega (arith, double-two (suc i + m), double-two i)

pub odd-run : (a : ℕ → ℕ) (c i n : ℕ) → ((m : ℕ) → a (suc (double i) + m) ≡ c)
    → odd_total a (suc i + n) ≡ odd_total a (suc i) + n * c
odd-run a c i n h = total-run (λ (j : ℕ). a (suc (double j))) c (suc i) n (λ m. ap a (place m) ∙ h (2 + 2 * m))
  where
    place : (m : ℕ) → suc (double (suc i + m)) ≡ suc (double i) + (2 + 2 * m)
    place m = omega (arith, double-two (suc i + m), double-two i)
