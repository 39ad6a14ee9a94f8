-- What a word's first bytes stand for, where they are digits.
use Rattle.std.specs.Prelude.{◌≡◌, ℕ, ◌<◌, take}
use Rattle.text_words.specs.code.Word.{word_bytes, bytes_in}
use Rattle.text_tokens.specs.Number.{value}

-- r is the number of the first n bytes of the word, and has at most eight digits
pub record Worked (word n r : ℕ) : Type 0 where
  pub value : r ≡ value (take n (bytes_in word_bytes word))
  pub small : r < 100000000
