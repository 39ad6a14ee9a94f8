-- What the code's places in a slice mean in terms of lists of bytes.
use Rattle.std.specs.Prelude.{ℕ, ◌-◌, Bool, List, ℤ, length, drop, Option, Some, None}
use Rattle.text_tokens.specs.Text.{Parse, malformed, taken, take_text, is_taken}
use Rattle.text_tokens.specs.Number.{read_number}

-- whether the bytes from a place on begin with the text
unfoldable pub text_at : List ℕ → ℕ → List ℕ → Bool
text_at bytes at text = is_taken (take_text text (drop at bytes))

-- a number that was read, with the place after it, in n bytes
abbrev pub placed : ℕ → Parse ℤ → Option (ℤ × ℕ)
placed n malformed = None
placed n (taken v rest) = Some (v, n - length rest)

-- the number at a place
unfoldable pub number_at : List ℕ → ℕ → Option (ℤ × ℕ)
number_at bytes at = placed (length bytes) (read_number (drop at bytes))

-- what a result of the code says was read: the number, and the bytes from the place after it on
abbrev pub number_read : List ℕ → Option (ℤ × ℕ) → Parse ℤ
number_read bytes None = malformed
number_read bytes (Some (v, next)) = taken v (drop next bytes)
