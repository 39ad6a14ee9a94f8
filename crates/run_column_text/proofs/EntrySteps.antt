-- A line of a column in the steps of the code: what is still to be read after each part.
use mathlib.Core.Path.{◌≡◌, sym, ap, ◌∙◌}
use Prim.Native.Nat.{ℕ}
use mathlib.Core.List.{List}
use lib.IntN.{ℤ}
use lib.ListN.{drop}
use Rattle.std.specs.Prelude.{Option, None, Some}
use Rattle.text_tokens.specs.Text.{bytes_of, Parse, malformed, taken, take_text, and_then}
use Rattle.text_tokens.specs.laws.Steps.{goes, stops}
use Rattle.text_tokens.specs.Number.{read_digits}
use Rattle.run_query.specs.Query.{read_field, ended}
use Rattle.run_column_text.specs.declared.Entry.{Entry}
use Rattle.run_column_text.specs.Column.{wholes, decimals, read_q, read_entry}
use Rattle.run_column_text.specs.code.Code.{unsigned_read}

-- ---- q

abbrev pub from_point : ℕ → List ℕ → Parse ℕ
from_point v bs = and_then (take_text (bytes_of ".") bs) (λ u rest. read_digits v decimals rest)

pub digit-malformed : (bs : List ℕ) → read_digits 0 wholes bs ≡ malformed → read_q bs ≡ malformed
unfolding read_q
digit-malformed bs e = stops _ e

pub digit-taken : (bs : List ℕ) {v : ℕ} {rest : List ℕ} → read_digits 0 wholes bs ≡ taken v rest → read_q bs ≡ from_point v rest
unfolding read_q
digit-taken bs e = goes _ e

-- ---- a line

abbrev pub from_q : ℤ → List ℕ → Parse Entry
from_q age bs = and_then (read_q bs) (λ steps rest. ended (record { age = age; steps = steps }) rest)

abbrev pub from_name : ℤ → List ℕ → Parse Entry
from_name age bs = and_then (take_text (bytes_of " q=") bs) (λ u rest. from_q age rest)

pub age-malformed : (line : List ℕ) → read_field (bytes_of "age=") line ≡ malformed → read_entry line ≡ malformed
unfolding read_entry
age-malformed line e = stops _ e

pub age-taken : (line : List ℕ) {age : ℤ} {rest : List ℕ} → read_field (bytes_of "age=") line ≡ taken age rest
    → read_entry line ≡ from_name age rest
unfolding read_entry
age-taken line e = goes _ e

-- ---- what a result of the code says was read

module _ (bytes : List ℕ) where
  pub unsigned-malformed : {r : Option (ℕ × ℕ)} {q : Parse ℕ} → unsigned_read bytes r ≡ q → r ≡ None → q ≡ malformed
  unsigned-malformed e f = sym e ∙ ap (unsigned_read bytes) f

  pub unsigned-taken : {r : Option (ℕ × ℕ)} {q : Parse ℕ} {v next : ℕ} → unsigned_read bytes r ≡ q → r ≡ Some (v, next)
      → q ≡ taken v (drop next bytes)
  unsigned-taken e f = sym e ∙ ap (unsigned_read bytes) f
