-- Whole columns that are read and columns that are malformed, by computation.
use Rattle.std.specs.Prelude.{◌≡◌, refl, List, [], ◌++◌, ℕ, zero, suc}
use Rattle.number_whole.specs.Listed.{listed}
use Rattle.text_tokens.specs.Text.{bytes_of, malformed, taken, take_text}
use Rattle.text_tokens.specs.Number.{is_digit, digits, after_digits, value_from, no_leading_zero, well_formed, leading, read_digits}
use Rattle.text_tokens.specs.Number.{read_unsigned, negated, positive, read_number, decimal, unsigned_text}
use Rattle.text_lines.specs.Lines.{ahead, lines}
use Rattle.model_closure.specs.Weights.{last_closed}
use Rattle.run_query.specs.Query.{read_field, alone, ended}
use Rattle.run_column_text.specs.Column.{column_lines, read_q, read_entry, read_entries, entries_of, is_age, upward, by_age, column_of}

line_text : ℕ → List ℕ
line_text x = bytes_of "age=" ++ (unsigned_text x ++ bytes_of " q=0.00312\n")

-- the lines of n ages from x on, and those of the ages below n, the highest first
lines_from : ℕ → ℕ → List ℕ
lines_from x zero = []
lines_from x (suc n) = line_text x ++ lines_from (suc x) n

downward : ℕ → List ℕ
downward zero = []
downward (suc n) = line_text n ++ downward n

whole-column : column_of (lines_from 0 column_lines) ≡ taken (listed (λ x. 312) 0 column_lines) []
unfolding line_text lines_from listed bytes_of take_text read_field alone ended is_digit digits after_digits value_from no_leading_zero
    well_formed read_unsigned negated positive read_number decimal unsigned_text leading ahead lines read_digits read_q read_entry
    read_entries entries_of is_age upward by_age column_of
whole-column = refl

-- another order: the highest age first, two neighbours exchanged, and age 0 at the end
other-orders : (column_of (downward column_lines) ≡ malformed)
    × (column_of (lines_from 0 64 ++ line_text 65 ++ line_text 64 ++ lines_from 66 55) ≡ malformed)
    × (column_of (lines_from 1 last_closed ++ line_text 0) ≡ malformed)
unfolding line_text lines_from downward listed bytes_of take_text read_field alone ended is_digit digits after_digits value_from
    no_leading_zero well_formed read_unsigned negated positive read_number decimal unsigned_text leading ahead lines read_digits
    read_q read_entry read_entries entries_of is_age upward by_age column_of
other-orders = (refl, refl, refl)

-- no line, age 120 missing, an age 121, an age twice, an age twice and the last missing, ages 1 to 121, an empty line at the end,
-- and one without its line feed
malformed-columns : (column_of [] ≡ malformed)
    × (column_of (lines_from 0 last_closed) ≡ malformed)
    × (column_of (lines_from 0 (suc column_lines)) ≡ malformed)
    × (column_of (lines_from 0 66 ++ lines_from 65 56) ≡ malformed)
    × (column_of (lines_from 0 66 ++ lines_from 65 55) ≡ malformed)
    × (column_of (lines_from 1 column_lines) ≡ malformed)
    × (column_of (lines_from 0 column_lines ++ bytes_of "\n") ≡ malformed)
    × (column_of (lines_from 0 last_closed ++ bytes_of "age=120 q=0.00312") ≡ malformed)
unfolding line_text lines_from listed bytes_of take_text read_field alone ended is_digit digits after_digits value_from no_leading_zero
    well_formed read_unsigned negated positive read_number decimal unsigned_text leading ahead lines read_digits read_q read_entry
    read_entries entries_of is_age upward by_age column_of
malformed-columns = (refl, refl, refl, refl, refl, refl, refl, refl)
