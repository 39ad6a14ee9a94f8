-- A couple's query line in the steps of the code: what is still to be read after each part.
use mathlib.Core.Path.{◌≡◌, sym, ap, ◌∙◌}
use Rattle.std.specs.Prelude.{Option, None, Some}
use Prim.Native.Nat.{ℕ}
use mathlib.Core.List.{List}
use lib.IntN.{ℤ}
use lib.ListN.{drop}
use Rattle.text_tokens.specs.Text.{bytes_of, Parse, malformed, taken, take_text, and_then}
use Rattle.text_tokens.specs.laws.Steps.{goes, stops}
use Rattle.quote_couple_kinds.specs.declared.CoupleKind.{CoupleKind}
use Rattle.run_query.specs.Query.{read_word, read_field, ended}
use Rattle.run_couple_query.specs.declared.CoupleQuery.{CoupleQuery}
use Rattle.run_couple_query.specs.CoupleQuery.{couple_word, couples_on_offer, read_couple}
use Rattle.run_couple_query.specs.code.Code.{couple_kind_read}

-- ---- what is still to be read

abbrev pub from_span : CoupleKind → ℤ → ℤ → ℤ → List ℕ → Parse CoupleQuery
from_span kind age other year bs =
    and_then (read_field (bytes_of " span=") bs)
    (λ span rest. ended (record { kind = kind; age = age; other = other; year = year; span = span }) rest)

abbrev pub from_year : CoupleKind → ℤ → ℤ → List ℕ → Parse CoupleQuery
from_year kind age other bs = and_then (read_field (bytes_of " year=") bs) (λ year rest. from_span kind age other year rest)

abbrev pub from_other : CoupleKind → ℤ → List ℕ → Parse CoupleQuery
from_other kind age bs = and_then (read_field (bytes_of " age2=") bs) (λ other rest. from_year kind age other rest)

abbrev pub from_age : CoupleKind → List ℕ → Parse CoupleQuery
from_age kind bs = and_then (read_field (bytes_of " age=") bs) (λ age rest. from_other kind age rest)

abbrev pub from_word : List ℕ → Parse CoupleQuery
from_word bs = and_then (read_word couple_word couples_on_offer bs) (λ kind rest. from_age kind rest)

-- ---- the start

pub start-malformed : (line : List ℕ) → take_text (bytes_of "kind=") line ≡ malformed → read_couple line ≡ malformed
unfolding read_couple
start-malformed line e = stops _ e

pub start-taken : (line : List ℕ) {u : Unit} {rest : List ℕ} → take_text (bytes_of "kind=") line ≡ taken u rest
    → read_couple line ≡ from_word rest
unfolding read_couple
start-taken line e = goes _ e

-- ---- what a result of the code says was read of a kind

module _ (bytes : List ℕ) where
  pub kind-malformed : {r : Option (CoupleKind × ℕ)} {q : Parse CoupleKind} → couple_kind_read bytes r ≡ q → r ≡ None → q ≡ malformed
  kind-malformed e f = sym e ∙ ap (couple_kind_read bytes) f

  pub kind-taken : {r : Option (CoupleKind × ℕ)} {q : Parse CoupleKind} {k : CoupleKind} {next : ℕ} → couple_kind_read bytes r ≡ q
      → r ≡ Some (k, next) → q ≡ taken k (drop next bytes)
  kind-taken e f = sym e ∙ ap (couple_kind_read bytes) f
