-- The marks on the bytes of a word: the zero bits below the first mark count the digits at the front.
use Rattle.std.specs.Prelude.{◌≡◌, refl, ℕ, zero, suc, ◌+◌, ◌*◌, ◌/◌, ◌^◌, Bool, true, false, List, [], ◌∷◌, map, length}
use Rattle.std.proofs.Common.{sym, ap, ap₂, ◌∙◌, zero-add, suc-add, mul-one, arith}
use Rattle.std.proofs.Math.Arith.{digits_mod}
use Rattle.std.specs.Int.Bits.{shifted_half, shifted_even}
use Rattle.std.specs.Int.Count.{count_trailing_zeros, under}
use Rattle.text_words.specs.code.Word.{byte_bits, lane_sum, word_of}
use Rattle.text_tokens.specs.Number.{is_digit, digits}
use Rattle.text_tokens.specs.laws.DigitLaws.{digits_more, digits-end}
use Rattle.text_numbers.specs.code.Parts.{mark}

mark-digit : (x : ℕ) → is_digit x ≡ true → mark x ≡ 0
unfolding mark
mark-digit x e = rw e

mark-other : (x : ℕ) → is_digit x ≡ false → mark x ≡ 128
unfolding mark
mark-other x e = rw e

-- ---- zeros at the low end

-- those of a number shifted to the left by j
pub trailing-shifted : (j k r : ℕ) → count_trailing_zeros (j + k) (r * 2 ^ j) ≡ j + count_trailing_zeros k r
unfolding count_trailing_zeros
trailing-shifted zero k r = rw (zero-add k, mul-one r) (sym (zero-add _))
trailing-shifted (suc j) k r =
    rw (suc-add j k) (ap₂ under (shifted_even r j) (ap (count_trailing_zeros (j + k)) (shifted_half r j)))
    ∙ ap suc (trailing-shifted j k r) ∙ sym (suc-add j (count_trailing_zeros k r))

-- an odd number has none
pub trailing_odd : (k r : ℕ) → count_trailing_zeros (suc k) (r * 2 + 1) ≡ 0
unfolding count_trailing_zeros
trailing_odd k r = ap (λ (d : ℕ). under d (count_trailing_zeros k ((r * 2 + 1) / 2))) (digits_mod r (omega arith))

-- ---- the digits at the front

-- of n bytes, how many stand below the lowest bit that is set
abbrev pub clear_bytes : ℕ → ℕ → ℕ
clear_bytes n v = count_trailing_zeros (n * byte_bits) v / byte_bits

-- a first byte with no mark, and one with a mark
zeros-digit : (n v : ℕ)
    → count_trailing_zeros (suc n * byte_bits) (v * 2 ^ byte_bits + 0) ≡ byte_bits + count_trailing_zeros (n * byte_bits) v
zeros-digit n v =
    ap₂ count_trailing_zeros (omega arith) (omega arith) ∙ trailing-shifted byte_bits (n * byte_bits) v

zeros-other : (n v : ℕ) → count_trailing_zeros (suc n * byte_bits) (v * 2 ^ byte_bits + 128) ≡ 7 + 0
zeros-other n v =
    ap₂ count_trailing_zeros (omega arith) (omega arith)
    ∙ trailing-shifted 7 (suc (n * byte_bits)) (v * 2 + 1)
    ∙ ap (λ (z : ℕ). 7 + z) (trailing_odd (n * byte_bits) v)

clear-digit : (n v : ℕ) → clear_bytes (suc n) (v * 2 ^ byte_bits + 0) ≡ suc (clear_bytes n v)
clear-digit n v = omega (arith, zeros-digit n v)

clear-other : (n v : ℕ) → clear_bytes (suc n) (v * 2 ^ byte_bits + 128) ≡ 0
clear-other n v = omega (arith, zeros-other n v)

-- the digits at the front are as many as the bytes below the first mark
pub digits-counted : (xs : List ℕ) → clear_bytes (length xs) (word_of (map mark xs)) ≡ length (digits xs)
unfolding lane_sum digits count_trailing_zeros
digits-counted [] = refl
digits-counted (x ∷ xs) = go (digits-counted xs) (is_digit x) refl
  where
    go : clear_bytes (length xs) (word_of (map mark xs)) ≡ length (digits xs) → (d : Bool) → is_digit x ≡ d
        → clear_bytes (suc (length xs)) (word_of (map mark xs) * 2 ^ byte_bits + mark x) ≡ length (digits (x ∷ xs))
    go ih true e =
        rw (mark-digit x e, digits_more x xs e) (clear-digit (length xs) (word_of (map mark xs)) ∙ ap suc ih)
    go ih false e = rw (mark-other x e, digits-end x xs e) (clear-other (length xs) (word_of (map mark xs)))
