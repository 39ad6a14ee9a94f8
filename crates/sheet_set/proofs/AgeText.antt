-- The text of an age below 100 and its `=`, and the head of an age's line, a name and then that text.
use mathlib.Core.Path.{sym, ap, ◌∙◌}
use Prim.Native.Nat.{ℕ, ◌≤◌, ◌<◌}
use native.Mathlib.Omega.{arith}
use mathlib.Core.List.{List, ◌++◌, append_assoc}
use lib.ListN.{length, length-append}
use Rattle.text_words.specs.declared.Short.{Short}
use Rattle.text_words.specs.code.ShortText.{Sized, Holds, Joins, text_of}
use Rattle.text_words.specs.laws.ShortTextLaws.{holds-joins, holds-sized}
use Rattle.text_tokens.specs.Text.{bytes_of}
use Rattle.text_tokens.specs.Number.{unsigned_text}
use Rattle.text_tokens.specs.laws.DecimalLaws.{by_size, text-small, text-two}
use Rattle.sheet.specs.code.Lines.{Heads}
use Rattle.sheet_set.proofs.Joined.{joined-holds}

-- two bytes or three
pub age-length : (x : ℕ) → x < 100
    → (0 < length (unsigned_text x ++ bytes_of "=")) × (length (unsigned_text x ++ bytes_of "=") ≤ 3)
unfolding bytes_of
age-length x k = by_size x (λ h. rw (text-small x h) (omega arith)) (λ h. rw (text-two x h k) (omega arith))

-- a name of at most five bytes and then the age: the two fit into a word, and are the head of a line
module _ (x : ℕ) (k : x < 100) {age : Short} (h : Holds age (unsigned_text x ++ bytes_of "=")) where
  pub age-joins : {name : Short} {n : List ℕ} → Holds name n → length n ≤ 5 → Joins name age
  age-joins j l = let m = age-length x k in holds-joins j h m.0 (omega arith)

  module _ {name r : Short} {n : List ℕ} (i : Holds name n) (j : Holds r (text_of name ++ text_of age)) where
    pub age-sized : Sized r
    age-sized =
        let m = age-length x k in
        holds-sized j
        (omega (arith, length-append (text_of name) (text_of age), ap length h.holds))

    pub age-head : Heads r (n ++ unsigned_text x)
    age-head = record { text = (joined-holds i h j).holds ∙ sym (append_assoc n (unsigned_text x) (bytes_of "=")) }
