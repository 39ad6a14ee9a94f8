-- A text of at most eight bytes held as a word; and what a comparison says.
use Rattle.std.specs.Prelude.{◌≡◌, Bool, true, false, List, ℕ, ◌+◌, ◌*◌, ◌^◌, ◌≤◌, ◌<◌}
use Rattle.text_words.specs.declared.Short.{Short}
use Rattle.text_words.specs.code.Word.{byte_bits, word_bytes, bytes_in}

-- its bytes
abbrev pub text_of : Short → List ℕ
text_of s = bytes_in s.len s.word

-- it has one to eight bytes
pub record Sized (s : Short) : Type 0 where
  pub some : 0 < s.len
  pub short : s.len ≤ word_bytes

-- it has at most eight bytes, and its word nothing above them
pub record Padded (s : Short) : Type 0 where
  pub short : s.len ≤ word_bytes
  pub clear : s.word < 2 ^ (s.len * byte_bits)

-- a short text that holds just these bytes
pub record Holds (s : Short) (text : List ℕ) : Type 0 where
  pub padded : Padded s
  pub holds : text_of s ≡ text

-- a test tells whether a fact holds
pub record Tells (r : Bool) (P : Type 0) : Type 0 where
  pub yes : r ≡ true → P
  pub no : r ≡ false → P → ⊥

-- two short texts that fit one after the other, the second of at least a byte
pub record Joins (s t : Short) : Type 0 where
  pub first : Padded s
  pub second : Padded t
  pub some : 0 < t.len
  pub room : s.len + t.len ≤ word_bytes
