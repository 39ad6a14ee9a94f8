-- The first bytes of a list, no more than there are digits at its front: the low bits of each are the digit's value.
use Rattle.std.specs.Prelude.{◌≡◌, refl, ℕ, zero, suc, ◌+◌, ◌-◌, ◌*◌, ◌^◌, ◌≤◌, ◌<◌, Bool, true, false, List, [], ◌∷◌, map, length, take}
use Rattle.std.proofs.Common.{ap, ◌∙◌, arith}
use Rattle.std.specs.Int.Bits.{bit_and}
use Rattle.std.proofs.lemmas.Nat.{and_mask}
use Rattle.text_words.specs.code.Word.{Below, none, more}
use Rattle.text_tokens.specs.Number.{zero_digit, is_digit, digits, value_from}
use Rattle.text_tokens.specs.laws.DigitLaws.{digit-bounds, digits_more, digits-end}
use Rattle.text_numbers.specs.code.Parts.{numeral}

-- the low bits of a byte, which hold a digit's value
abbrev pub digit_bits : ℕ
digit_bits = 4

abbrev pub digit_mask : ℕ
digit_mask = 2 ^ digit_bits - 1

abbrev pub digit_of : ℕ → ℕ
digit_of x = bit_and x digit_mask

digit-of : (x : ℕ) → is_digit x ≡ true → (digit_of x ≡ x - zero_digit) × (digit_of x < 10)
digit-of x e =
    let w = digit-bounds x e in
    (omega (arith, and_mask x digit_bits), omega (arith, and_mask x digit_bits))

-- a first byte that is counted is a digit
first : (n x : ℕ) (xs : List ℕ) → suc n ≤ length (digits (x ∷ xs)) → (is_digit x ≡ true) × (n ≤ length (digits xs))
first n x xs h = go (is_digit x) refl
  where
    go : (d : Bool) → is_digit x ≡ d → (is_digit x ≡ true) × (n ≤ length (digits xs))
    go true e = (e, omega (arith, ap length (digits_more x xs e)))
    go false e = absurd (omega (arith, ap length (digits-end x xs e)))

pub front_below : (n : ℕ) (xs : List ℕ) → n ≤ length (digits xs) → Below 10 (map digit_of (take n xs))
front_below zero xs h = none
front_below (suc n) [] h = none
front_below (suc n) (x ∷ xs) h =
    let w = first n x xs h in
    more (digit-of x w.0).1 (front_below n xs w.1)

pub front-value : (m n : ℕ) (xs : List ℕ) → n ≤ length (digits xs)
    → numeral 10 m (map digit_of (take n xs)) ≡ value_from m (take n xs)
unfolding numeral value_from
front-value m zero xs h = refl
front-value m (suc n) [] h = refl
front-value m (suc n) (x ∷ xs) h =
    let w = first n x xs h in
    ap (λ (d : ℕ). numeral 10 (m * 10 + d) (map digit_of (take n xs))) (digit-of x w.0).0
    ∙ front-value (m * 10 + (x - zero_digit)) n xs w.1
