-- A column whose rows stand in "any order, each age once", as paper 02, E3 had it before E10: for the law alone that joins it to the
-- column that is read (OrderLaws).
use Rattle.std.specs.Prelude.{Bool, true, false, cond, ◌&&◌, List, [], ◌∷◌, ℕ, eqb, ℤ, length}
use Rattle.std.specs.Int.Signed.{lt_z}
use Rattle.number_whole.specs.Listed.{listed}
use Rattle.number_whole.proofs.laws.Table.{every}
use Rattle.text_tokens.specs.Text.{Parse, malformed, taken, and_then}
use Rattle.quote_table_tests.specs.TableTests.{age_in_table}
use Rattle.run_column_text.specs.declared.Entry.{Entry}
use Rattle.run_column_text.specs.Column.{column_lines, entries_of, is_age}

-- ---- each age once

-- the entries of age x
unfoldable pub of_age : ℕ → List Entry → List Entry
of_age x [] = []
of_age x (e ∷ es) = elim (is_age x e.age) [ true ↦ e ∷ of_age x es | false ↦ of_age x es ]

-- no entry has an "age outside 0 to 120"
unfoldable pub all_in_table : List Entry → Bool
all_in_table [] = true
all_in_table (e ∷ es) = age_in_table e.age && all_in_table es

-- how many entries each age from 0 to 120 has
unfoldable pub counts : List Entry → List ℕ
counts es = listed (λ x. length (of_age x es)) 0 column_lines

-- each of these ages has one
unfoldable pub one_of_each : List Entry → Bool
one_of_each es = every (λ x n. eqb n 1) 0 (counts es)

unfoldable pub each_once : List Entry → Bool
each_once es = all_in_table es && one_of_each es

-- ---- the column

-- the steps of the first entry of age x: where each age stands once, of its entry
unfoldable pub steps_of : List Entry → ℕ → ℕ
steps_of es x = elim (of_age x es) [ [] ↦ 0 | e ∷ others ↦ e.steps ]

-- the steps of q from age 0 to age 120
unfoldable pub by_any_order : List Entry → Parse (List ℕ)
by_any_order es = cond (each_once es) (taken (listed (steps_of es) 0 column_lines) []) malformed

unfoldable pub column_in_any_order : List ℕ → Parse (List ℕ)
column_in_any_order bytes = and_then (entries_of bytes) (λ es rest. by_any_order es)

-- ---- the order

-- each of these rows is of an age above z
unfoldable pub above : ℤ → List Entry → Bool
above z [] = true
above z (e ∷ es) = lt_z z e.age && above z es

-- "rows go upward": each row's age is below those of the rows after it
unfoldable pub rising : List Entry → Bool
rising [] = true
rising (e ∷ es) = above e.age es && rising es
