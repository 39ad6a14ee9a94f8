-- A text written into bytes from a place on.
use Rattle.std.specs.Prelude.{◌≡◌, List, ℕ, ◌+◌, ◌≤◌, length}
use Rattle.text_printing.specs.code.Overwritten.{overwritten}

-- the bytes have room for the text from the place on
pub record Room (bytes : List ℕ) (at : ℕ) (text : List ℕ) : Type 0 where
  pub fits : at + length text ≤ length bytes

-- the bytes with the text written over them, and the place after it
pub record Put (bytes : List ℕ) (at : ℕ) (text after : List ℕ) (next : ℕ) : Type 0 where
  pub place : next ≡ at + length text
  pub whole : after ≡ overwritten bytes at text
