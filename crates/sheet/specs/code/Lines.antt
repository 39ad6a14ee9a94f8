-- What the code says was read of some lines: their numbers, with the bytes from a place on, or malformed; and that this is right for
-- the keys that their heads hold.
use Rattle.std.specs.Prelude.{◌≡◌, ℕ, List, [], ◌∷◌, ◌++◌, ℤ, drop, Option, Some, None}
use Rattle.text_words.specs.declared.Short.{Short}
use Rattle.text_words.specs.code.ShortText.{text_of}
use Rattle.text_tokens.specs.Text.{bytes_of, Parse, malformed, taken}
use Rattle.text_tokens.specs.code.Places.{number_read}
use Rattle.sheet.specs.Sheet.{read_line, read_lines}

abbrev pub lines_read : List ℕ → Option (List ℤ × ℕ) → Parse (List ℤ)
lines_read bytes None = malformed
lines_read bytes (Some (vs, next)) = taken vs (drop next bytes)

-- a short text that is a line's key and the `=` after it
pub record Heads (head : Short) (key : List ℕ) : Type 0 where
  pub text : text_of head ≡ key ++ bytes_of "="

-- what was read of the line at a place is what the line with the head's key gives
abbrev pub LineOf : List ℕ → ℕ → Short → Option (ℤ × ℕ) → Type 0
LineOf bytes at head r = (key : List ℕ) → Heads head key → number_read bytes r ≡ read_line key (drop at bytes)

-- and so of the four lines at a place
abbrev pub FourOf : List ℕ → ℕ → Short → Short → Short → Short → Option (List ℤ × ℕ) → Type 0
FourOf bytes at h₀ h₁ h₂ h₃ r =
    (k₀ k₁ k₂ k₃ : List ℕ) → Heads h₀ k₀ → Heads h₁ k₁ → Heads h₂ k₂ → Heads h₃ k₃
    → lines_read bytes r ≡ read_lines (k₀ ∷ k₁ ∷ k₂ ∷ k₃ ∷ []) (drop at bytes)
