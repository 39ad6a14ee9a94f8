-- A query line in the steps of the code: what is still to be read after each part.
use mathlib.Core.Path.{◌≡◌, refl, sym, ap, ◌∙◌}
use Rattle.std.specs.Prelude.{Option, None, Some}
use Prim.Native.Nat.{ℕ, ◌+◌, ◌≤◌, ◌<◌}
use native.Mathlib.Decide.{dec_le}
use native.Mathlib.Nat.{lt_of_not-le}
use mathlib.Core.Bool.{Bool, true, false}
use mathlib.Core.List.{List, [], ◌∷◌}
use borrow.Author.Tests.{le-leb, lt-leb}
use lib.Dec.{leb}
use lib.IntN.{ℤ}
use lib.ListN.{length, drop, drop_of_length-le}
use lib.Seq.{drop-cons}
use Rattle.number_whole.proofs.laws.Clash.{clash}
use Rattle.text_tokens.specs.Text.{bytes_of, Parse, malformed, taken, is_taken, take_text, and_then}
use Rattle.text_tokens.specs.code.Places.{text_at}
use Rattle.text_tokens.specs.laws.TextLaws.{text-found, text-missing}
use Rattle.text_tokens.specs.laws.Steps.{goes, stops}
use Rattle.quote_kinds.specs.declared.Kind.{Kind}
use Rattle.run_query.specs.declared.Query.{Query}
use Rattle.quote_kinds.specs.Kinds.{takes_rate, with_rate}
use Rattle.run_query.specs.Query.{word_of, on_offer, term_name, read_word, read_field, read_rate, alone, ended, whole_word, read_query}
use Rattle.run_query.specs.code.Code.{kind_read, line_ends}

-- ---- what is still to be read

abbrev pub from_rate : Kind → ℤ → ℤ → ℤ → List ℕ → Parse Query
from_rate word age year term bs =
    and_then (read_rate word bs)
    (λ kind rest. ended (record { kind = kind; age = age; year = year; term = term }) rest)

abbrev pub from_term : Kind → ℤ → ℤ → List ℕ → Parse Query
from_term word age year bs = and_then (read_field (term_name word) bs) (λ term rest. from_rate word age year term rest)

abbrev pub from_year : Kind → ℤ → List ℕ → Parse Query
from_year word age bs = and_then (read_field (bytes_of " year=") bs) (λ year rest. from_term word age year rest)

abbrev pub from_age : Kind → List ℕ → Parse Query
from_age word bs = and_then (read_field (bytes_of " age=") bs) (λ age rest. from_year word age rest)

abbrev pub from_word : List ℕ → Parse Query
from_word bs = and_then (read_word word_of on_offer bs) (λ word rest. from_age word rest)

-- ---- the start, and the end

pub start-malformed : (line : List ℕ) → take_text (bytes_of "kind=") line ≡ malformed → read_query line ≡ malformed
unfolding read_query
start-malformed line e = stops _ e

pub start-taken : (line : List ℕ) {u : Unit} {rest : List ℕ} → take_text (bytes_of "kind=") line ≡ taken u rest
    → read_query line ≡ from_word rest
unfolding read_query
start-taken line e = goes _ e

-- a line ends by the code's test, or it does not
module _ {A : Type 0} (a : A) (bs : List ℕ) where
  abbrev By : Parse Unit → Bool → Parse A → Type 0
  By q b r = is_taken (and_then q (λ u rest. alone {A = Unit} tt rest)) ≡ b → and_then q (λ u rest. alone a rest) ≡ r

  pub line-ended : line_ends bs ≡ true → ended a bs ≡ taken a []
  unfolding line_ends ended alone
  line-ended = go (take_text (bytes_of "\n") bs)
    where
      go : (q : Parse Unit) → By q true (taken a [])
      go malformed e = clash cc
      go (taken u []) e = refl
      go (taken u (b ∷ rest)) e = clash cc

  pub line-goes-on : line_ends bs ≡ false → ended a bs ≡ malformed
  unfolding line_ends ended alone
  line-goes-on = go (take_text (bytes_of "\n") bs)
    where
      go : (q : Parse Unit) → By q false malformed
      go malformed e = refl
      go (taken u []) e = clash cc
      go (taken u (b ∷ rest)) e = refl

-- something follows, or nothing
pub followed : {A : Type 0} (a : A) (line : List ℕ) (n : ℕ) → n < length line → alone a (drop n line) ≡ malformed
unfolding alone
followed a line n h = rw (drop-cons line n 0 h)

pub at-end : {A : Type 0} (a : A) (line : List ℕ) (n : ℕ) → length line ≤ n → alone a (drop n line) ≡ taken a []
unfolding alone
at-end a line n h = rw (drop_of_length-le line h)

-- no line feed stands at a place, or one does and the line has no more bytes
module _ (line : List ℕ) (at : ℕ) where
  pub no-feed : text_at line at (bytes_of "\n") ≡ false → line_ends (drop at line) ≡ false
  unfolding line_ends ended
  no-feed h = ap is_taken (stops (λ u rest. alone {A = Unit} tt rest) (text-missing line at (bytes_of "\n") h))

  pub feed-last : text_at line at (bytes_of "\n") ≡ true → line_ends (drop at line) ≡ leb (length line) (at + 1)
  unfolding line_ends ended bytes_of
  feed-last h =
      ap is_taken (goes (λ u rest. alone {A = Unit} tt rest) (text-found line at (bytes_of "\n") h))
      ∙ elim (dec_le (length line) (at + 1)) [
        | yes l ↦ ap is_taken (at-end tt line (at + 1) l) ∙ sym (le-leb _ _ l)
        | no l ↦ let more = lt_of_not-le l in ap is_taken (followed tt line (at + 1) more) ∙ sym (lt-leb _ _ more)
      ]

-- a word that is none on offer, goes on, or ends
module _ {X : Type 0} (word : X → List ℕ) (xs : List X) (bs : List ℕ) where
  pub no_word : read_word word xs bs ≡ malformed → whole_word word xs bs ≡ malformed
  unfolding whole_word
  no_word e = stops _ e

  module _ {x : X} (n : ℕ) (e : read_word word xs bs ≡ taken x (drop n bs)) where
    pub word-goes-on : n < length bs → whole_word word xs bs ≡ malformed
    unfolding whole_word
    word-goes-on h = goes _ e ∙ followed x bs n h

    pub word-ends : length bs ≤ n → whole_word word xs bs ≡ taken x (drop n bs)
    unfolding whole_word
    word-ends h = goes _ e ∙ at-end x bs n h ∙ rw (drop_of_length-le bs h)

-- ---- a rate

module _ (k : Kind) (bs : List ℕ) where
  -- none is taken; it is malformed; it is read
  pub rate-none : takes_rate k ≡ false → read_rate k bs ≡ taken k bs
  unfolding read_rate
  rate-none e = rw e

  module _ (t : takes_rate k ≡ true) where
    pub rate-malformed : read_field (bytes_of " rate=") bs ≡ malformed → read_rate k bs ≡ malformed
    unfolding read_rate
    rate-malformed e = rw t (stops _ e)

    pub rate-taken : {rate : ℤ} {rest : List ℕ} → read_field (bytes_of " rate=") bs ≡ taken rate rest
        → read_rate k bs ≡ taken (with_rate k rate) rest
    unfolding read_rate
    rate-taken e = rw t (goes _ e)

-- ---- what a result of the code says was read of a kind

module _ (bytes : List ℕ) where
  pub kind-malformed : {r : Option (Kind × ℕ)} {q : Parse Kind} → kind_read bytes r ≡ q → r ≡ None → q ≡ malformed
  kind-malformed e f = sym e ∙ ap (kind_read bytes) f

  pub kind-taken : {r : Option (Kind × ℕ)} {q : Parse Kind} {k : Kind} {next : ℕ} → kind_read bytes r ≡ q → r ≡ Some (k, next)
      → q ≡ taken k (drop next bytes)
  kind-taken e f = sym e ∙ ap (kind_read bytes) f
