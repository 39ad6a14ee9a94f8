-- Powers that have run out: from one on whose lower end is 0, and whose upper end is 0 or 1, each further one has the same ends,
-- and what is left of the logarithm's sum, with its rest, is a count.
use Rattle.std.specs.Prelude.{◌≡◌}
use Rattle.std.proofs.Common.{sym, ◌∙◌, add-zero, add-suc, mul_comm, zero-lt-suc}
use Rattle.std.proofs.Math.Path.{ap}
use Prim.Native.Nat.{ℕ, zero, suc, ◌+◌, ◌-◌, ◌*◌, ◌/◌, ◌≤◌, ◌<◌}
use Rattle.std.proofs.Math.Nat.{zero-div}
use native.Mathlib.Omega.{arith}
use Rattle.number_whole.specs.Division.{ceil_div_ℕ}
use Rattle.number_exponential.specs.Grid.{Grid}
use Rattle.number_exponential.proofs.laws.RunOut.{ceil-stays, lower-stays, upper-stays}
use Rattle.model_logarithm.specs.Logarithm.{power_lower, power_upper, log_terms_lower, log_terms_upper, log_rest, log_upper}

-- a quotient of c, and of twice c, rounded up, where c is 0 or 1
ceil-small : (c d : ℕ) → c ≤ 1 → 0 < d → ceil_div_ℕ c d ≡ c
ceil-small c d h p =
    ap (λ (x : ℕ). ceil_div_ℕ x d) (omega arith) ∙ ceil-stays c 1 d h (λ o. omega arith) (omega arith) p

ceil-twice : (c d : ℕ) → c ≤ 1 → 1 < d → ceil_div_ℕ (2 * c) d ≡ c
ceil-twice c d h p =
    ap (λ (x : ℕ). ceil_div_ℕ x d) (mul_comm 2 c) ∙ ceil-stays c 2 d h (λ o. omega arith) (omega arith) (omega arith)

module _ (g : Grid) (u : ℕ) where
  -- ---- the powers

  unit : ℕ → ℕ
  unit k = g.unit

  pub power-lower-stays : (k n : ℕ) → power_lower g u k ≡ 0 → power_lower g u (k + n) ≡ 0
  unfolding power_lower unit
  power-lower-stays =
      lower-stays (power_lower g u) unit u (λ m. ap (λ (x : ℕ). x / g.unit) (mul_comm u (power_lower g u m)))

  module _ (small : u ≤ g.unit) (k : ℕ) {c : ℕ} (h : c ≤ 1) (e : power_upper g u (suc k) ≡ c) where
    pub power-upper-stays : (n : ℕ) → power_upper g u (suc k + n) ≡ c
    unfolding power_upper unit
    power-upper-stays n =
        upper-stays (power_upper g u) unit u (λ m. ap (λ (x : ℕ). ceil_div_ℕ x g.unit) (mul_comm u (power_upper g u m)))
        (λ m. g.positive) (λ m. small) k n h e

    -- ---- the sums

    terms-upper-run : (n : ℕ) → log_terms_upper g u (suc k + n) ≡ log_terms_upper g u (suc k) + n * c
    unfolding log_terms_upper
    terms-upper-run zero = rw (add-zero (suc k)) (omega arith)
    terms-upper-run (suc n) =
        let m = suc k + n in
        let q : power_upper g u (suc m) ≡ c = rw (add-suc (suc k) n) at (power-upper-stays (suc n)) in
        let t : ceil_div_ℕ (power_upper g u (suc m)) (suc m) ≡ c = ap (λ (x : ℕ). ceil_div_ℕ x (suc m)) q ∙ ceil-small c (suc m) h (zero-lt-suc m) in
        rw (add-suc (suc k) n) (omega (arith, terms-upper-run n, t))

    -- the terms left, and the rest
    pub upper-run : suc k ≤ g.log_terms → log_upper g u ≡ log_terms_upper g u (suc k) + c * (suc g.log_terms - suc k)
    unfolding log_upper log_rest
    upper-run l =
        let T = g.log_terms in
        let n = T - suc k in
        let a : suc k + n ≡ T = omega arith in
        let b : suc k + suc n ≡ suc T = omega arith in
        let s : log_terms_upper g u T ≡ log_terms_upper g u (suc k) + n * c = ap (log_terms_upper g u) (sym a) ∙ terms-upper-run n in
        let p : power_upper g u (suc T) ≡ c = ap (power_upper g u) (sym b) ∙ power-upper-stays (suc n) in
        let r : ceil_div_ℕ (2 * power_upper g u (suc T)) (suc T) ≡ c = ap (λ (x : ℕ). ceil_div_ℕ (2 * x) (suc T)) p ∙ ceil-twice c (suc T) h (omega arith) in
        let d : suc T - suc k ≡ suc n = omega arith in
        rw d (omega (arith, s, r))

  pub lower-run : (k n : ℕ) → power_lower g u k ≡ 0 → log_terms_lower g u (k + n) ≡ log_terms_lower g u k
  unfolding log_terms_lower
  lower-run k zero e = rw (add-zero k)
  lower-run k (suc n) e =
      let m = k + n in
      let q : power_lower g u (suc m) ≡ 0 = rw (add-suc k n) at (power-lower-stays k (suc n) e) in
      let t : power_lower g u (suc m) / suc m ≡ 0 = ap (λ (x : ℕ). x / suc m) q ∙ zero-div (suc m) in
      rw (add-suc k n) (omega (arith, lower-run k n e, t))
