-- Texts as lists of bytes, and what reading from a list of bytes gives.
use Rattle.std.specs.Prelude.{ℕ, Bool, true, false, List, [], ◌∷◌, eqb}
use Prim.Native.Char.{code}
use Prim.Native.String.{String, [] as none, ◌∷◌ as ◌then◌}

-- a text of plain letters, digits and signs as its bytes
unfoldable pub bytes_of : String → List ℕ
bytes_of none = []
bytes_of (c then s) = code c ∷ bytes_of s

-- what is read at the front of a list of bytes: a value and the bytes after it, or malformed
pub data Parse (A : Type 0) : Type 0 where
  malformed : Parse A
  taken : A → List ℕ → Parse A

-- the bytes after the text, where they begin with it
unfoldable pub take_text : List ℕ → List ℕ → Parse Unit
take_text [] bs = taken tt bs
take_text (t ∷ ts) [] = malformed
take_text (t ∷ ts) (b ∷ bs) = elim (eqb b t) [ true ↦ take_text ts bs | false ↦ malformed ]

-- whether something was read
abbrev pub is_taken : {A : Type 0} → Parse A → Bool
is_taken malformed = false
is_taken (taken a rest) = true

-- one reading after another: it goes on with what the first takes, and stops where the first is malformed
abbrev pub and_then : {A B : Type 0} → Parse A → (A → List ℕ → Parse B) → Parse B
and_then q f = elim q [ malformed ↦ malformed | taken a rest ↦ f a rest ]
