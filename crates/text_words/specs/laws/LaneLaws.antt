-- Lanes and the number that they make up: each gives the other back, and what is left of a number by a power of two is its
-- first lanes.
use Rattle.std.specs.Prelude.{◌≡◌, length, take}
use Rattle.std.proofs.Math.Path.{refl, ap}
use Rattle.std.proofs.Common.{sym, ◌∙◌, mod-lt, zero-mul, add-zero, arith, pow_pos, take_all}
use Prim.Native.Nat.{ℕ, zero, suc, ◌+◌, ◌*◌, ◌/◌, ◌%◌, ◌^◌, ◌≤◌, ◌<◌}
use Rattle.std.proofs.Math.Nat.{mod-one, suc-mul, mul-mod_left, eq_of_mul-eq-mul_right}
use mathlib.Core.List.{List, ◌∷◌}
use Rattle.std.proofs.Math.Arith.{digits_lt}
use Rattle.std.proofs.Math.Pow.{pow-add, high, low}
use Rattle.std.proofs.lemmas.Nat.{mod-pow-add, shl-shr}
use Rattle.text_words.specs.code.Word.{lane_sum, lanes, Below, none, more}

module _ (k : ℕ) where
  -- n lanes are n numbers below 2^k
  pub lanes-length : (n w : ℕ) → length (lanes k n w) ≡ n
  unfolding lanes
  lanes-length zero w = refl
  lanes-length (suc n) w = ap suc (lanes-length n (w / 2 ^ k))

  pub lanes-below : (n w : ℕ) → Below (2 ^ k) (lanes k n w)
  unfolding lanes
  lanes-below zero w = none
  lanes-below (suc n) w = more (mod-lt w (pow_pos k)) (lanes-below n (w / 2 ^ k))

  -- the first lanes of so many
  pub lanes-take : (m n w : ℕ) → m ≤ n → take m (lanes k n w) ≡ lanes k m w
  unfolding lanes
  lanes-take zero n w h = refl
  lanes-take (suc m) zero w h = absurd (omega arith)
  lanes-take (suc m) (suc n) w h = ap (λ (r : List ℕ). w % 2 ^ k ∷ r) (lanes-take m n (w / 2 ^ k) (omega arith))

  -- the lanes of what lanes make up
  pub lanes-of-sum : (n : ℕ) {xs : List ℕ} → Below (2 ^ k) xs → n ≤ length xs → lanes k n (lane_sum k xs) ≡ take n xs
  unfolding lanes lane_sum
  lanes-of-sum zero b h = refl
  lanes-of-sum (suc n) none h = absurd (omega arith)
  lanes-of-sum (suc n) (more {x} {xs} l b) h =
      rw (low (lane_sum k xs) k l, high (lane_sum k xs) k l)
      (ap (λ (r : List ℕ). x ∷ r) (lanes-of-sum n b (omega arith)))

  -- what n lanes of a number make up
  pub sum-of-lanes : (n w : ℕ) → lane_sum k (lanes k n w) ≡ w % 2 ^ (n * k)
  unfolding lanes lane_sum
  sum-of-lanes zero w = rw (zero-mul k) (sym (mod-one w))
  sum-of-lanes (suc n) w =
      rw (sum-of-lanes n (w / 2 ^ k), suc-mul n k) (sym (mod-pow-add w (n * k) k))

  -- n lanes make up less than 2^(n·k)
  pub sum_below : {xs : List ℕ} → Below (2 ^ k) xs → lane_sum k xs < 2 ^ (length xs * k)
  unfolding lane_sum
  sum_below none = rw (zero-mul k) (omega arith)
  sum_below (more {x} {xs} l b) =
      rw (suc-mul (length xs) k, pow-add 2 (length xs * k) k) (digits_lt (sum_below b) l)

  -- two numbers leave the same by 2^(n·k) exactly where their first n lanes are the same
  lanes-left : (n w : ℕ) → lanes k n (w % 2 ^ (n * k)) ≡ lanes k n w
  lanes-left n w =
      ap (lanes k n) (sym (sum-of-lanes n w))
      ∙ lanes-of-sum n (lanes-below n w) (omega (arith, lanes-length n w))
      ∙ take_all n (lanes k n w) (omega (arith, lanes-length n w))

  pub same-lanes : (n w v : ℕ) → w % 2 ^ (n * k) ≡ v % 2 ^ (n * k) → lanes k n w ≡ lanes k n v
  same-lanes n w v e = sym (lanes-left n w) ∙ ap (lanes k n) e ∙ lanes-left n v

  pub same_left : (n w v : ℕ) → lanes k n w ≡ lanes k n v → w % 2 ^ (n * k) ≡ v % 2 ^ (n * k)
  same_left n w v e = sym (sum-of-lanes n w) ∙ ap (lane_sum k) e ∙ sum-of-lanes n v

-- a number shifted to the left in j + s bits
pub shifted : (w j s : ℕ) → w * 2 ^ s % 2 ^ (j + s) ≡ w % 2 ^ j * 2 ^ s
shifted w j s = mod-pow-add (w * 2 ^ s) j s ∙ rw (shl-shr w s, mul-mod_left w (2 ^ s)) (add-zero _)

pub shifted-same : (w v j s : ℕ) → w * 2 ^ s % 2 ^ (j + s) ≡ v * 2 ^ s % 2 ^ (j + s) → w % 2 ^ j ≡ v % 2 ^ j
shifted-same w v j s e =
    eq_of_mul-eq-mul_right (2 ^ s) (pow_pos s) _ _ (sym (shifted w j s) ∙ e ∙ shifted v j s)
