-- `marks` lane by lane: what the code makes of each byte, and that it is the byte's mark.
use mathlib.Core.Path.{◌≡◌, ap, ◌∙◌, subst}
use Prim.Native.Nat.{ℕ, ◌+◌, ◌^◌, ◌≤◌, ◌<◌}
use native.Mathlib.Nat.{zero-add}
use native.Mathlib.Omega.{arith}
use mathlib.Core.Bool.{Bool}
use mathlib.Core.List.{map}
use lib.Bits.{bit_and, bit_or, bit_xor, and_le_r}
use lib.Dec.{T, eqb, eqb→eq, lit<, lit≤}
use lib.ListN.{length}
use Rattle.number_whole.specs.Listed.{listed}
use Rattle.number_whole.proofs.laws.Table.{every, at, listed-length, listed_at}
use Rattle.text_words.specs.code.Word.{byte_bits, word_bytes, bytes_in, lane_sum, word_of, Below}
use Rattle.text_words.specs.laws.LaneLaws.{lanes-below, lanes-length}
use Rattle.text_tokens.specs.Number.{is_digit}
use Rattle.text_numbers.specs.code.Parts.{mark}
use Rattle.text_numbers.specs.laws.Lanewise.{spread, map-agree, Lanewise, itself, constant}
use Rattle.text_numbers.specs.laws.Lanewise.{and-lanes, or-lanes, xor-lanes, add-lanes}
use Rattle.text_numbers.specs.laws.ShiftLaws.{sum-all}

-- ---- one byte

-- what is added to reach the top bit after `9`, and from `0` on
abbrev pub past_nine : ℕ
past_nine = 70

abbrev pub from_zero : ℕ
from_zero = 80

-- what the code makes of a byte
abbrev low : ℕ → ℕ
low x = bit_and x 127

abbrev made : ℕ → ℕ
made x = bit_and (bit_or (bit_or (low x + past_nine) x) (bit_xor (low x + from_zero) 255)) 128

-- the mark, tested at each of the 256 bytes
abbrev marked : ℕ → ℕ → Bool
marked i x = eqb (made x) (mark x)

all-marked : T (every marked 0 (listed (λ (x : ℕ). x) 0 256))
unfolding listed mark is_digit
all-marked = tt

made-mark : (x : ℕ) → x < 2 ^ byte_bits → made x ≡ mark x
made-mark x h =
    let bytes = listed (λ (x : ℕ). x) 0 256 in
    let here : x < length bytes = omega (arith, listed-length (λ (x : ℕ). x) 0 256) in
    let same = listed_at (λ (x : ℕ). x) 0 0 256 x h ∙ zero-add x in
    eqb→eq (made x) (mark x) (subst (λ (y : ℕ). T (marked x y)) same (at marked 0 bytes all-marked x here))

-- ---- a word

-- the word of one byte eight times
abbrev pub eight : ℕ → ℕ
eight m = spread byte_bits word_bytes m

-- what the code makes of a word
abbrev pub made_of : ℕ → ℕ
made_of word =
    let lows = bit_and word (eight 127) in
    bit_and (bit_or (bit_or (lows + eight past_nine) word) (bit_xor (lows + eight from_zero) (eight 255))) (eight 128)

module _ (word : ℕ) (fits : word < 2 ^ 64) where
  abbrev Bytes : (ℕ → ℕ) → ℕ → Type 0
  Bytes f v = Lanewise byte_bits (bytes_in word_bytes word) f v

  bytes : Below (2 ^ byte_bits) (bytes_in word_bytes word)
  bytes = lanes-below byte_bits word_bytes word

  all : Bytes (λ x. x) word
  all = rw (sum-all byte_bits word_bytes word fits) at (itself byte_bits (bytes_in word_bytes word))

  one : (m : ℕ) → m < 2 ^ byte_bits → Bytes (λ x. m) (eight m)
  one m l = constant byte_bits word_bytes (lanes-length byte_bits word_bytes word) m l

  low-plus : (m : ℕ) → m ≤ 128 → Bytes (λ x. low x + m) (bit_and word (eight 127) + eight m)
  low-plus m l =
      add-lanes bytes (and-lanes bytes all (one 127 (lit< tt))) (one m (omega arith))
      (λ x h. omega (arith, and_le_r x 127))

  all_made : Bytes made (made_of word)
  all_made =
      and-lanes bytes
      (or-lanes bytes
      (or-lanes bytes (low-plus past_nine (lit≤ tt)) all)
      (xor-lanes bytes (low-plus from_zero (lit≤ tt)) (one 255 (lit< tt))))
      (one 128 (lit< tt))

  pub marks-are : made_of word ≡ word_of (map mark (bytes_in word_bytes word))
  marks-are = all_made.sum ∙ ap (lane_sum byte_bits) (map-agree made mark bytes made-mark)
