-- A word of a table and a field at a place, in the steps of the code: each is found there, or is not.
use mathlib.Core.Path.{◌≡◌, sym, ◌∙◌}
use Prim.Native.Nat.{ℕ, ◌+◌}
use mathlib.Core.Bool.{Bool, true, false}
use mathlib.Core.List.{List, ◌∷◌}
use lib.ListN.{length, drop}
use Rattle.std.specs.Prelude.{Option, None, Some, ℤ}
use Rattle.text_tokens.specs.Text.{malformed, taken}
use Rattle.text_tokens.specs.Number.{read_number}
use Rattle.text_tokens.specs.code.Places.{text_at, number_at, number_read}
use Rattle.text_tokens.specs.laws.TextLaws.{text-found, text-missing}
use Rattle.text_tokens.specs.laws.NumberLaws.{number-found, number-malformed}
use Rattle.text_tokens.specs.laws.Steps.{goes, stops}
use Rattle.run_query.specs.Query.{read_word, read_field}

-- the number that the code's result at a place says was read
number-said : (bytes : List ℕ) (at : ℕ) (r : Option (ℤ × ℕ)) → r ≡ number_at bytes at
    → number_read bytes r ≡ read_number (drop at bytes)
number-said bytes at None e = sym (number-malformed bytes at (sym e))
number-said bytes at (Some (v, next)) e = sym (number-found bytes at (sym e))

module _ (bytes : List ℕ) (at : ℕ) where
  -- the first word on offer is found, or the others are left
  module _ {X : Type 0} (word : X → List ℕ) (x : X) (xs : List X) where
    pub word-found : {r : Bool} → r ≡ text_at bytes at (word x) → r ≡ true
        → read_word word (x ∷ xs) (drop at bytes) ≡ taken x (drop (at + length (word x)) bytes)
    unfolding read_word
    word-found e h = rw (text-found bytes at (word x) (sym e ∙ h), read_word)

    pub word-missing : {r : Bool} → r ≡ text_at bytes at (word x) → r ≡ false
        → read_word word (x ∷ xs) (drop at bytes) ≡ read_word word xs (drop at bytes)
    unfolding read_word
    word-missing e h = rw (text-missing bytes at (word x) (sym e ∙ h), read_word)

  -- a field's name is missing, or its number follows
  module _ (name : List ℕ) where
    pub name-missing : text_at bytes at name ≡ false → read_field name (drop at bytes) ≡ malformed
    unfolding read_field
    name-missing h = stops _ (text-missing bytes at name h)

    pub number-follows : text_at bytes at name ≡ true → {r : Option (ℤ × ℕ)} → r ≡ number_at bytes (at + length name)
        → number_read bytes r ≡ read_field name (drop at bytes)
    unfolding read_field
    number-follows h {r} e = number-said bytes (at + length name) r e ∙ sym (goes _ (text-found bytes at name h))
