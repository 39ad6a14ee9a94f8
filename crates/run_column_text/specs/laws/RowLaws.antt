-- Rows read one after another: one of its place's age leaves the later ones to be read, and any other makes the column malformed,
-- as does one after that of age 120.
use Rattle.std.specs.Prelude.{◌≡◌, refl, Bool, true, false, cond, ℕ, suc, ◌+◌, ◌≤◌, ◌<◌, get_or, take, drop, set}
use Rattle.std.proofs.Common.{ap, ◌∙◌, arith, length-set, drop_of_length-le, drop-cons, drop-drop, take-suc-set}
use Rattle.std.proofs.Math.Bool.{and-false}
use mathlib.Core.List.{List, [], ◌∷◌, ◌++◌, append-nil, map}
use Rattle.std.proofs.Math.Decide.{dec_lt}
use borrow.Author.Tests.{ne_eqb}
use Rattle.std.proofs.Math.ListN.{length}
use Rattle.std.proofs.Math.Seq.{append_snoc, take_all}
use Rattle.text_tokens.specs.Text.{bytes_of, Parse, malformed, taken, take_text, and_then}
use Rattle.text_tokens.specs.laws.NumberTrip.{malformed-not-taken}
use Rattle.sheet.proofs.laws.SheetTrip.{then-taken}
use Rattle.text_lines.specs.Lines.{first_line, after_line, lines}
use Rattle.text_lines.proofs.laws.LineLaws.{after-drop, lines_none, lines-first}
use Rattle.run_query.specs.Query.{read_field}
use Rattle.run_column_text.specs.declared.Entry.{Entry}
use Rattle.run_column_text.specs.Column.{column_lines, read_entry, read_entries, entries_of, is_age, upward, by_age, column_of}
use Rattle.run_column_text.specs.code.Code.{with_row}

abbrev pub steps_in : List Entry → List ℕ
steps_in es = map (λ (e : Entry). e.steps) es

-- the column of the steps before age x and the entries from that age on
abbrev pub onward : List ℕ → ℕ → Parse (List Entry) → Parse (List ℕ)
onward done x q = and_then q (λ es rest. cond (upward x es) (taken (done ++ steps_in es) []) malformed)

-- an entry in front of those that are read
abbrev behind : Entry → Parse (List Entry) → Parse (List Entry)
behind e q = and_then q (λ es rest. taken (e ∷ es) rest)

-- ---- one row

row-own : (done : List ℕ) (x : ℕ) (e : Entry) (q : Parse (List Entry)) → is_age x e.age ≡ true
    → onward done x (behind e q) ≡ onward (done ++ (e.steps ∷ [])) (suc x) q
unfolding upward
row-own done x e malformed h = refl
row-own done x e (taken es rest) h = rw (h, append_snoc done e.steps (steps_in es))

row_other : (done : List ℕ) (x : ℕ) (e : Entry) (q : Parse (List Entry)) → is_age x e.age ≡ false
    → onward done x (behind e q) ≡ malformed
unfolding upward
row_other done x e malformed h = refl
row_other done x e (taken es rest) h = rw h

-- there is none after age 120
upward-past : (x : ℕ) (es : List Entry) → column_lines < x → upward x es ≡ false
unfolding upward
upward-past x [] h = ne_eqb x column_lines (λ q. omega arith)
upward-past x (e ∷ es) h = rw (upward-past (suc x) es (omega arith)) (and-false (is_age x e.age))

row-past : (done : List ℕ) (e : Entry) (q : Parse (List Entry)) → onward done column_lines (behind e q) ≡ malformed
unfolding upward
row-past done e malformed = refl
row-past done e (taken es rest) =
    rw (upward-past (suc column_lines) es (omega arith), and-false (is_age column_lines e.age))

-- ---- one line

line-past : (done line : List ℕ) (ls : List (List ℕ)) → onward done column_lines (read_entries (line ∷ ls)) ≡ malformed
unfolding read_entries
line-past done line ls = go (read_entry line)
  where
    go : (q : Parse Entry) → onward done column_lines (and_then q (λ e none. behind e (read_entries ls))) ≡ malformed
    go malformed = refl
    go (taken e none) = row-past done e (read_entries ls)

line_step : (s : List ℕ) (x : ℕ) (line : List ℕ) (ls : List (List ℕ)) → x < length s
    → onward (take x s) x (read_entries (line ∷ ls))
    ≡ and_then (with_row s x line) (λ t none. onward (take (suc x) t) (suc x) (read_entries ls))
unfolding with_row read_entries
line_step s x line ls h = go (read_entry line)
  where
    next : List ℕ → List ℕ → Parse (List ℕ)
    next t none = onward (take (suc x) t) (suc x) (read_entries ls)

    put : Entry → Bool → Parse (List ℕ)
    put e b = cond b (taken (set s x e.steps) []) malformed

    own : (e : Entry) (b : Bool) → is_age x e.age ≡ b
        → onward (take x s) x (behind e (read_entries ls)) ≡ and_then (put e b) next
    own e true a = rw (take-suc-set s x e.steps h) (row-own (take x s) x e (read_entries ls) a)
    own e false a = row_other (take x s) x e (read_entries ls) a

    go : (q : Parse Entry)
        → onward (take x s) x (and_then q (λ e none. behind e (read_entries ls)))
        ≡ and_then (and_then q (λ e none. put e (is_age x e.age))) next
    go malformed = refl
    go (taken e none) = own e (is_age x e.age) refl

-- a row that is put leaves as many steps
pub row-long : (s : List ℕ) (x : ℕ) (line : List ℕ) {t none : List ℕ} → with_row s x line ≡ taken t none → length t ≡ length s
unfolding with_row
row-long s x line {t} {none} h = then-taken (read_entry line) _ h λ e after e₀ f. go e (is_age x e.age) f
  where
    go : (e : Entry) (b : Bool) → cond b (taken (set s x e.steps) []) malformed ≡ taken t none → length t ≡ length s
    go e true q = let is : set s x e.steps ≡ t = cc in rw (← is) (length-set s x e.steps)
    go e false q = malformed-not-taken q

-- ---- from a place on

-- the line at a place
abbrev pub line_at : List ℕ → ℕ → List ℕ
line_at bytes at = first_line (drop at bytes)

-- the column of the steps before age x and the rows from a place on
abbrev pub column_from : List ℕ → ℕ → List ℕ → ℕ → Parse (List ℕ)
column_from bytes at s x = onward (take x s) x (read_entries (lines (drop at bytes)))

pub from_start : (bytes : List ℕ) → column_of bytes ≡ column_from bytes 0 [] 0
unfolding column_of entries_of by_age
from_start bytes = refl

lines-here : (bytes : List ℕ) (at : ℕ) → at < length bytes
    → lines (drop at bytes) ≡ line_at bytes at ∷ lines (drop (at + length (line_at bytes at)) bytes)
lines-here bytes at h =
    let bs = drop at bytes in
    let e : lines bs ≡ first_line bs ∷ lines (after_line bs) =
    rw (drop-cons bytes at 0 h) (lines-first (get_or bytes at 0) (drop (suc at) bytes)) in
    e ∙ ap (λ (cs : List ℕ). first_line bs ∷ lines cs) (after-drop bs ∙ drop-drop (length (first_line bs)) at bytes)

empty-line : read_entry [] ≡ malformed
unfolding read_entry read_field take_text bytes_of
empty-line = refl

module _ (bytes : List ℕ) (at : ℕ) (s : List ℕ) where
  -- a row below age 121
  pub from_step : (x : ℕ) → x < column_lines → length s ≡ column_lines
      → column_from bytes at s x
      ≡ and_then (with_row s x (line_at bytes at)) (λ t none. column_from bytes (at + length (line_at bytes at)) t (suc x))
  unfolding with_row upward read_entries first_line
  from_step x l k =
      elim (dec_lt at (length bytes)) [
        | yes h ↦ rw (lines-here bytes at h) (line_step s x (line_at bytes at) (lines (drop (at + length (line_at bytes at)) bytes)) (omega arith))
        | no h ↦ rw (drop_of_length-le bytes {i = at} (omega arith), lines_none, empty-line, ne_eqb x column_lines (λ q. omega arith))
      ]

  -- after age 120 no row is left, or one is
  pub from_end : length s ≡ column_lines → length bytes ≤ at → column_from bytes at s column_lines ≡ taken s []
  unfolding upward read_entries
  from_end k h =
      rw (drop_of_length-le bytes h, lines_none)
      (ap (λ (l : List ℕ). taken l []) (append-nil (take column_lines s) ∙ take_all column_lines s (omega arith)))

  pub from_past : at < length bytes → column_from bytes at s column_lines ≡ malformed
  from_past h =
      rw (lines-here bytes at h)
      (line-past (take column_lines s) (line_at bytes at) (lines (drop (at + length (line_at bytes at)) bytes)))
