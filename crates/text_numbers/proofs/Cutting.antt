-- `value_of` lane by lane: the first n bytes, cut to the digits' values, after bytes of 0.
use mathlib.Core.Path.{◌≡◌, refl, sym, ap, ap₂, ◌∙◌}
use Prim.Native.Nat.{ℕ, ◌+◌, ◌-◌, ◌*◌, ◌%◌, ◌^◌, ◌≤◌, ◌<◌}
use native.Mathlib.Omega.{arith}
use mathlib.Core.List.{List, ◌++◌, map}
use lib.Bits.{bit_and, and_le_r}
use lib.Dec.{lit<}
use lib.ListN.{length, take, replicate, length-append, length-replicate, length-map}
use Rattle.text_words.specs.code.Word.{byte_bits, word_bytes, bytes_in, lane_sum, Below}
use Rattle.text_words.specs.laws.LaneLaws.{lanes-below, lanes-length, lanes-take}
use Rattle.text_tokens.specs.Number.{digits, value}
use Rattle.text_tokens.specs.laws.DigitLaws.{digits-length}
use Rattle.text_numbers.specs.code.Parts.{numeral}
use Rattle.text_numbers.specs.laws.Lanewise.{spread, itself, constant, and-lanes, map_below}
use Rattle.text_numbers.specs.laws.PairLaws.{numeral-below}
use Rattle.text_numbers.specs.laws.ShiftLaws.{lanes_all, zeros-below, zeros-map, zeros-numeral, shifted-lanes}
use Rattle.text_numbers.specs.laws.FrontLaws.{digit_mask, digit_of, front_below, front-value}

-- the word that the code makes
abbrev pub cut : ℕ → ℕ → ℕ
cut word n = bit_and (word * 2 ^ (64 - 8 * n) % 2 ^ 64) (spread byte_bits word_bytes digit_mask)

-- the bytes after the shift: those that are shifted in, and the first n of the word
abbrev moved : ℕ → ℕ → List ℕ
moved word n = replicate (8 - n) 0 ++ bytes_in n word

moved-is : (word n : ℕ) → n ≤ 8 → word * 2 ^ (64 - 8 * n) % 2 ^ 64 ≡ lane_sum byte_bits (moved word n)
moved-is word n few =
    let by : 64 - 8 * n ≡ (8 - n) * byte_bits = omega arith in
    let room : 64 ≡ n * byte_bits + (8 - n) * byte_bits = omega arith in
    ap₂ (λ (a b : ℕ). word * 2 ^ a % 2 ^ b) by room ∙ shifted-lanes byte_bits (8 - n) n word

moved-below : (word n : ℕ) → Below (2 ^ byte_bits) (moved word n)
moved-below word n = zeros-below (8 - n) (lit< tt) (lanes-below byte_bits n word)

moved_length : (word n : ℕ) → n ≤ 8 → length (moved word n) ≡ word_bytes
moved_length word n few =
    simp (length-append, length-replicate) (omega (arith, lanes-length byte_bits n word))

cut-is : (word n : ℕ) → n ≤ 8 → cut word n ≡ lane_sum byte_bits (map digit_of (moved word n))
cut-is word n few =
    ap (λ (s : ℕ). bit_and s (spread byte_bits word_bytes digit_mask)) (moved-is word n few)
    ∙ (and-lanes (moved-below word n) (itself byte_bits (moved word n))
    (constant byte_bits word_bytes (moved_length word n few) digit_mask (lit< tt))).sum

digit-below : (x : ℕ) → x < 2 ^ byte_bits → digit_of x < 2 ^ byte_bits
digit-below x l = omega (arith, and_le_r x digit_mask)

cut-bytes : (word n : ℕ) → n ≤ 8
    → bytes_in word_bytes (cut word n) ≡ replicate (8 - n) 0 ++ map digit_of (take n (bytes_in word_bytes word))
cut-bytes word n few =
    ap (bytes_in word_bytes) (cut-is word n few)
    ∙ lanes_all byte_bits word_bytes (map_below digit_of (moved-below word n) digit-below)
    (length-map (moved word n) digit_of ∙ moved_length word n few)
    ∙ zeros-map digit_of refl (8 - n) (bytes_in n word)
    ∙ ap (λ (l : List ℕ). replicate (8 - n) 0 ++ map digit_of l) (sym (lanes-take byte_bits n word_bytes word few))

-- a word has eight bytes
pub within : (word n : ℕ) → n ≤ length (digits (bytes_in word_bytes word)) → n ≤ 8
within word n h =
    omega (arith, digits-length (bytes_in word_bytes word), lanes-length byte_bits word_bytes word)

module _ (word n : ℕ) (h : n ≤ length (digits (bytes_in word_bytes word))) where
  -- a digit's value in each byte, and the number that they stand for
  pub cut_below : Below 10 (bytes_in word_bytes (cut word n))
  cut_below =
      rw (cut-bytes word n (within word n h)) (zeros-below (8 - n) (lit< tt) (front_below n (bytes_in word_bytes word) h))

  pub cut-value : numeral 10 0 (bytes_in word_bytes (cut word n)) ≡ value (take n (bytes_in word_bytes word))
  cut-value =
      ap (numeral 10 0) (cut-bytes word n (within word n h))
      ∙ zeros-numeral 10 (8 - n) (map digit_of (take n (bytes_in word_bytes word)))
      ∙ front-value 0 n (bytes_in word_bytes word) h

  pub cut_small : numeral 10 0 (bytes_in word_bytes (cut word n)) < 100000000
  cut_small = rw (lanes-length byte_bits word_bytes (cut word n)) at (numeral-below 10 0 cut_below)
