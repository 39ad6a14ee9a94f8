-- A column of q that somebody published (paper 02, E3): "columns of q for one year: 121 lines `age=0 q=0.00312`, each ended by a
-- line feed, the age formed as in a sheet, q as one digit, a point and five digits"; and E10: "From here rows go upward from age 0
-- to 120, and any other order is 9." Anything else is malformed: "9 torn column, of any length, also for an age outside 0 to 120".
use Rattle.std.specs.Prelude.{Bool, false, cond, ◌&&◌, List, [], ◌∷◌, map, ℕ, suc, eqb, ℤ, pos, negsuc}
use Rattle.text_tokens.specs.Text.{bytes_of, Parse, malformed, taken, take_text, and_then}
use Rattle.text_tokens.specs.Number.{read_digits}
use Rattle.text_lines.specs.Lines.{lines}
use Rattle.model_closure.specs.Weights.{last_closed}
use Rattle.run_query.specs.Query.{read_field, ended}
use Rattle.run_column_text.specs.declared.Entry.{Entry}

-- ---- a line

-- "121 lines", one for each age
abbrev pub column_lines : ℕ
column_lines = suc last_closed

-- digits of q before the point, and after it
abbrev pub wholes : ℕ
wholes = 1

abbrev pub decimals : ℕ
decimals = 5

-- "q as one digit, a point and five digits": its steps of 0.00001, which are its digits without the point
unfoldable pub read_q : List ℕ → Parse ℕ
read_q bs =
    and_then (read_digits 0 wholes bs) (λ v after.
    and_then (take_text (bytes_of ".") after) (λ u rest. read_digits v decimals rest))

-- "`age=0 q=0.00312`, each ended by a line feed": the entry of a whole line
unfoldable pub read_entry : List ℕ → Parse Entry
read_entry line =
    and_then (read_field (bytes_of "age=") line) (λ age after₀.
    and_then (take_text (bytes_of " q=") after₀) (λ u after₁.
    and_then (read_q after₁) (λ steps after₂. ended (record { age = age; steps = steps }) after₂)))

-- ---- all lines

-- the entries of lines, malformed if one of them is
unfoldable pub read_entries : List (List ℕ) → Parse (List Entry)
read_entries [] = taken [] []
read_entries (l ∷ ls) = and_then (read_entry l) (λ e none. and_then (read_entries ls) (λ es rest. taken (e ∷ es) rest))

unfoldable pub entries_of : List ℕ → Parse (List Entry)
entries_of bytes = read_entries (lines bytes)

-- ---- rows by age

unfoldable pub is_age : ℕ → ℤ → Bool
is_age x (pos n) = eqb n x
is_age x (negsuc n) = false

-- "rows go upward from age 0 to 120": from age x on, each row is of the next age, and none follows that of age 120
unfoldable pub upward : ℕ → List Entry → Bool
upward x [] = eqb x column_lines
upward x (e ∷ es) = is_age x e.age && upward (suc x) es

-- ---- the column

-- the steps of q from age 0 to age 120
unfoldable pub by_age : List Entry → Parse (List ℕ)
by_age es = cond (upward 0 es) (taken (map (λ (e : Entry). e.steps) es) []) malformed

unfoldable pub column_of : List ℕ → Parse (List ℕ)
column_of bytes = and_then (entries_of bytes) (λ es rest. by_age es)
