-- Neighbouring lanes joined in a word: a word of n + n digits to the base p becomes one of n digits to the base p², in
-- lanes of twice the width.
use Rattle.std.specs.Prelude.{◌≡◌, ℕ, zero, suc, ◌+◌, ◌-◌, ◌*◌, ◌/◌, ◌%◌, ◌^◌, ◌≤◌, ◌<◌, List, [], ◌∷◌, length}
use Rattle.std.proofs.Common.{ap, ap₂, ◌∙◌, mod-lt, lt_of_lt_of_le, arith, pow_pos, pow-add, pow_mono}
use Rattle.std.proofs.Math.Arith.{digits_lt}
use Rattle.std.specs.Int.Bits.{bit_and, and_zero_r}
use Rattle.std.proofs.lemmas.Nat.{and_block, and_mask}
use Rattle.std.proofs.Math.Pow.{ones_lt, split, high, low}
use Rattle.text_words.specs.code.Word.{lane_sum, Below, none, more}
use Rattle.text_numbers.specs.code.Parts.{numeral, pairs}
use Rattle.text_numbers.specs.laws.Lanewise.{spread}
use Rattle.text_numbers.specs.laws.PairLaws.{below_more, pairs-length, pairs_below, two-places}

-- the mask of the lower of each two of n + n lanes
abbrev pub low_of_two : ℕ → ℕ → ℕ
low_of_two k n = spread (k + k) n (2 ^ k - 1)

-- a word's neighbours joined, as the code does it
abbrev pub joined : ℕ → ℕ → ℕ → ℕ → ℕ
joined k p n v = bit_and v (low_of_two k n) * p + bit_and (v / 2 ^ k) (low_of_two k n)

-- ---- two lanes

-- the mask leaves the lower of them
masked : (k a m y x : ℕ) → y < 2 ^ k → x < 2 ^ k
    → bit_and (a * 2 ^ (k + k) + (y * 2 ^ k + x)) (m * 2 ^ (k + k) + (2 ^ k - 1)) ≡ bit_and a m * 2 ^ (k + k) + x
masked k a m y x h l =
    let both : y * 2 ^ k + x < 2 ^ (k + k) = rw (pow-add 2 k k) (digits_lt h l) in
    let ones : 2 ^ k - 1 < 2 ^ (k + k) = lt_of_lt_of_le (ones_lt k) (pow_mono (omega arith)) in
    and_block (k + k) a m (y * 2 ^ k + x) (2 ^ k - 1) both ones
    ∙ ap (λ (r : ℕ). bit_and a m * 2 ^ (k + k) + r) (and_mask (y * 2 ^ k + x) k ∙ low y k l)

regroup-split : (q r s w y : ℕ) → q * w + r ≡ s → s * w + y ≡ q * (w * w) + (r * w + y)
regroup-split q r s w y e = omega (arith, ap (λ (a : ℕ). a * w) e)

put : (a b w x y p : ℕ) → (a * w + x) * p + (b * w + y) ≡ (a * p + b) * w + (x * p + y)
put a b w x y p = omega arith

-- two lanes y and x below those of s, and the mask of one pair more
module _ (k p s m y x : ℕ) (h : y < 2 ^ k) (l : x < 2 ^ k) where
  abbrev more-lanes : ℕ
  more-lanes = (s * 2 ^ k + y) * 2 ^ k + x

  abbrev more-mask : ℕ
  more-mask = m * 2 ^ (k + k) + (2 ^ k - 1)

  lower : bit_and more-lanes more-mask ≡ bit_and s m * 2 ^ (k + k) + x
  lower =
      let e : more-lanes ≡ s * 2 ^ (k + k) + (y * 2 ^ k + x) = rw (pow-add 2 k k) (two-places s (2 ^ k) y x) in
      ap (λ (a : ℕ). bit_and a more-mask) e ∙ masked k s m y x h l

  shifted_down : more-lanes / 2 ^ k ≡ s / 2 ^ k * 2 ^ (k + k) + (s % 2 ^ k * 2 ^ k + y)
  shifted_down =
      high (s * 2 ^ k + y) k l
      ∙ rw (pow-add 2 k k) (regroup-split (s / 2 ^ k) (s % 2 ^ k) s (2 ^ k) y (split s k))

  upper : bit_and (more-lanes / 2 ^ k) more-mask ≡ bit_and (s / 2 ^ k) m * 2 ^ (k + k) + y
  upper =
      ap (λ (a : ℕ). bit_and a more-mask) shifted_down
      ∙ masked k (s / 2 ^ k) m (s % 2 ^ k) y (mod-lt s (pow_pos k)) h

  two_lanes : bit_and more-lanes more-mask * p + bit_and (more-lanes / 2 ^ k) more-mask
      ≡ (bit_and s m * p + bit_and (s / 2 ^ k) m) * 2 ^ (k + k) + (x * p + y)
  two_lanes =
      ap₂ (λ (a b : ℕ). a * p + b) lower upper
      ∙ put (bit_and s m) (bit_and (s / 2 ^ k) m) (2 ^ (k + k)) x y p

-- ---- all lanes

joined-sum : (k p n : ℕ) {xs : List ℕ} → Below (2 ^ k) xs → length xs ≡ n + n
    → joined k p n (lane_sum k xs) ≡ lane_sum (k + k) (pairs p xs)
unfolding lane_sum pairs
joined-sum k p zero none e = rw (and_zero_r (0 / 2 ^ k)) (omega arith)
joined-sum k p zero (more l h) e = absurd (omega arith)
joined-sum k p (suc n) none e = absurd (omega arith)
joined-sum k p (suc n) (more l none) e = absurd (omega arith)
joined-sum k p (suc n) (more {x} l (more {x = y} {xs} m h)) e =
    two_lanes k p (lane_sum k xs) (low_of_two k n) y x m l
    ∙ ap (λ (a : ℕ). a * 2 ^ (k + k) + (x * p + y)) (joined-sum k p n h (omega arith))

-- v is a word of n lanes of k bits, each a digit to the base p
pub record Packs (k p n : ℕ) (xs : List ℕ) (v : ℕ) : Type 0 where
  pub sum : v ≡ lane_sum k xs
  pub count : length xs ≡ n
  pub below : Below p xs

pub packs-join : (k p n : ℕ) → p ≤ 2 ^ k → {v : ℕ} {xs : List ℕ} → Packs k p (n + n) xs v
    → Packs (k + k) (p * p) n (pairs p xs) (joined k p n v)
packs-join k p n fits {xs = xs} d =
    record {
      sum = rw d.sum (joined-sum k p n (below_more fits d.below) d.count);
      count = pairs-length p n xs d.count;
      below = pairs_below d.below;
    }

-- a word of one lane is its number
one_lane : (k p : ℕ) (xs : List ℕ) → length xs ≡ 1 → lane_sum k xs ≡ numeral p 0 xs
unfolding lane_sum numeral
one_lane k p [] e = absurd (omega arith)
one_lane k p (x ∷ []) e = omega arith
one_lane k p (x ∷ y ∷ xs) e = absurd (omega arith)

pub packs-one : (k p : ℕ) {v : ℕ} {xs : List ℕ} → Packs k p 1 xs v → v ≡ numeral p 0 xs
packs-one k p {xs = xs} d = d.sum ∙ one_lane k p xs d.count
