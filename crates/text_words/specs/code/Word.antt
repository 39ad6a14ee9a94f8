-- A word: bytes, or wider lanes, side by side in one whole number, the first lowest.
use Rattle.std.specs.Prelude.{ℕ, zero, suc, ◌+◌, ◌*◌, ◌/◌, ◌%◌, ◌^◌, ◌<◌, List, [], ◌∷◌}

-- bits of a byte, and bytes of a word
abbrev pub byte_bits : ℕ
byte_bits = 8

abbrev pub word_bytes : ℕ
word_bytes = 8

-- the number whose lanes of k bits are these
unfoldable pub lane_sum : ℕ → List ℕ → ℕ
lane_sum k [] = 0
lane_sum k (x ∷ xs) = lane_sum k xs * 2 ^ k + x

-- the first n lanes of k bits of a number
unfoldable pub lanes : ℕ → ℕ → ℕ → List ℕ
lanes k zero w = []
lanes k (suc n) w = w % 2 ^ k ∷ lanes k n (w / 2 ^ k)

-- the word of bytes, and the first n bytes of a word
abbrev pub word_of : List ℕ → ℕ
word_of bs = lane_sum byte_bits bs

abbrev pub bytes_in : ℕ → ℕ → List ℕ
bytes_in n w = lanes byte_bits n w

-- each number of a list is below b
pub data Below (b : ℕ) : List ℕ → Type 0 where
  none : Below b []
  more : {x : ℕ} {xs : List ℕ} → x < b → Below b xs → Below b (x ∷ xs)
