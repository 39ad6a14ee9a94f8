-- `put_row` meets its contract: the line is malformed, or of another age, or its steps go into their place.
use borrow.Author.Rules.{rules}
use borrow.Author.Tests.{eq-eqb, ne_eqb}
use mathlib.Core.Path.{◌≡◌, refl, sym, ap, ◌∙◌}
use mathlib.Core.Bool.{Bool, true, false}
use mathlib.Core.List.{List, []}
use Prim.Native.Nat.{ℕ, ◌^◌, ◌<◌}
use native.Mathlib.Omega.{arith}
use lib.IntN.{ℤ, pos, negsuc}
use lib.Signed.{mag}
use mir.Syntax.{w64}
use mir.Val.{SFits, hbits, of_z}
use lib.ListN.{set}
use Rattle.text_tokens.specs.Text.{taken}
use Rattle.text_tokens.specs.laws.Steps.{goes, stops}
use Rattle.run_column_text.specs.Column.{column_lines, read_entry, is_age}
use Rattle.run_column_text.specs.code.Code.{entry_read, list_read, with_row}
use Rattle.run_column_text.specs.declared.Entry.{Entry}
use Rattle.run_column_text.proofs.put_row.Goals as goal

-- an age by its bits: it is x, or another
age-own : (x : ℕ) (z : ℤ) → mag z < 2 ^ hbits w64 → x < column_lines → of_z w64 z ≡ x → is_age x z ≡ true
unfolding is_age
age-own x (pos n) h k e = eq-eqb n x e
age-own x (negsuc n) h k e = absurd (omega arith)

age-other : (x : ℕ) (z : ℤ) → (of_z w64 z ≡ x → ⊥) → is_age x z ≡ false
unfolding is_age
age-other x (pos n) h = ne_eqb n x h
age-other x (negsuc n) h = refl

-- an entry that was read: its age decides
row_as : (s : List ℕ) (x : ℕ) (line : List ℕ) {e : Entry} {b : Bool} → read_entry line ≡ taken e [] → is_age x e.age ≡ b
    → with_row s x line ≡ list_read b (set s x e.steps)
unfolding with_row
row_as s x line {e = e} q h = goes _ q ∙ ap (λ (b : Bool). list_read b (set s x e.steps)) h

pub returns-in_default : goal.returns-in_default
unfolding with_row
returns-in_default c = sym (stops _ (sym c.entry_of.ensures ∙ ap entry_read c.in_default.is))

pub returns-then-entry-x : goal.returns-then-entry-x
returns-then-entry-x c =
    let entry-taken : let s = c.args in read_entry s.line.now ≡ taken c.in-Some.entry [] = sym c.entry_of.ensures ∙ ap entry_read c.in-Some.is in
    sym (row_as _ _ _ entry-taken (age-other _ _ (λ q. omega arith)))

pub returns : goal.returns
returns c =
    let fits : SFits w64 c.in-Some.entry.age = search rules in
    let entry-taken : let s = c.args in read_entry s.line.now ≡ taken c.in-Some.entry [] = sym c.entry_of.ensures ∙ ap entry_read c.in-Some.is in
    sym (row_as _ _ _ entry-taken (age-own _ _ fits.sfits (omega arith) (omega arith)))
