-- What the code reads of a number in two steps: its digits, and the number without its sign.
use Rattle.std.specs.Prelude.{◌≡◌, ℕ, suc, ◌-◌, cond, List, eqb, length, drop, Option, Some, None}
use Rattle.text_tokens.specs.declared.Digits.{Digits}
use Rattle.text_tokens.specs.Text.{Parse, malformed, taken}
use Rattle.text_tokens.specs.Number.{minus_sign, most_digits, value, read_unsigned, leading}

-- the digits from a place on, to one more than a number may have: how many, and their value
pub record DigitsRead (bytes : List ℕ) (at : ℕ) (r : Digits) : Type 0 where
  pub counted : r.count ≡ length (leading (suc most_digits) (drop at bytes))
  pub valued : r.value ≡ value (leading (suc most_digits) (drop at bytes))

-- a number without its sign that was read, with the place after it, in n bytes
abbrev pub placed_unsigned : ℕ → Parse ℕ → Option (ℕ × ℕ)
placed_unsigned n malformed = None
placed_unsigned n (taken v rest) = Some (v, n - length rest)

-- the number without its sign at a place
unfoldable pub unsigned_at : List ℕ → ℕ → Option (ℕ × ℕ)
unsigned_at bytes at = placed_unsigned (length bytes) (read_unsigned (drop at bytes))

-- how many minuses a byte is
unfoldable pub minuses : ℕ → ℕ
minuses b = cond (eqb b minus_sign) 1 0
