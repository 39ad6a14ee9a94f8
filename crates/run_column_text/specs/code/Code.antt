-- What the code's results say was read.
use Rattle.std.specs.Prelude.{ℕ, ◌^◌, ◌+◌, Bool, Option, None, Some, cond, List, [], drop, set}
use Rattle.text_tokens.specs.Text.{Parse, malformed, taken, and_then}
use Rattle.run_column_text.specs.declared.Entry.{Entry}
use Rattle.run_column_text.specs.Column.{wholes, decimals, read_entry, is_age}

-- a number without its sign, and the bytes from the place after it on
abbrev pub unsigned_read : List ℕ → Option (ℕ × ℕ) → Parse ℕ
unsigned_read bytes None = malformed
unsigned_read bytes (Some (v, next)) = taken v (drop next bytes)

abbrev pub entry_read : Option Entry → Parse Entry
entry_read None = malformed
entry_read (Some e) = taken e []

-- a list that counts where the flag is set
abbrev pub list_read : Bool → List ℕ → Parse (List ℕ)
list_read ok l = cond ok (taken l []) malformed

abbrev pub column_read : Option (List ℕ) → Parse (List ℕ)
column_read None = malformed
column_read (Some l) = taken l []

-- the steps with those of a line of age x in their place
unfoldable pub with_row : List ℕ → ℕ → List ℕ → Parse (List ℕ)
with_row s x line =
    and_then (read_entry line) (λ e rest. cond (is_age x e.age) (taken (set s x e.steps) []) malformed)

-- q has at most 999,999 steps
abbrev pub most_steps : ℕ
most_steps = 10 ^ (wholes + decimals)
