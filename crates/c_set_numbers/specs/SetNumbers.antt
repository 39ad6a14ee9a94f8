-- A parameter set as a list of 372 numbers, as programs in other languages hold it, and what the calls over such lists
-- give.
use Rattle.std.specs.Prelude.{ℕ, zero, suc, Bool, false, ◌&&◌, cond, List, ◌∷◌, ◌++◌, eqb, leb, ℤ, pos, negsuc, length, get_or, drop}
use Rattle.set_params.specs.declared.Params.{Params}
use Rattle.set_params.specs.declared.Table.{Table}
use Rattle.set_params.specs.declared.Table.TheVariants.{Ag2014, LiLee}
use Rattle.set_params.specs.declared.Sex.{Sex}
use Rattle.set_params.specs.declared.Sex.TheVariants.{M, F}
use Rattle.set_refusal.specs.declared.Refusal.TheVariants.{Malformed, BufferTooShort}
use Rattle.set_refusal.specs.Refusals.{refusal_number}
use Rattle.sheet.specs.Sheet.{all_values, params_of, sheet_text, read_sheet, write_refusal, written_buffer}

-- ---- a set's numbers

-- the table, the sex and the 370 numbers of a set
abbrev pub set_length : ℕ
set_length = 372

unfoldable pub table_number : Table → ℤ
table_number Ag2014 = pos 0
table_number LiLee = pos 1

unfoldable pub sex_number : Sex → ℤ
sex_number M = pos 0
sex_number F = pos 1

-- the table, the sex, a, theta, K, k, the start and c, and then A, B, alpha and beta of each age, whichever the table
unfoldable pub set_numbers : Params → List ℤ
set_numbers p = table_number p.table ∷ sex_number p.sex ∷ all_values p

-- 0 or 1
unfoldable pub is_label : ℤ → Bool
is_label (pos n) = leb n 1
is_label (negsuc n) = false

unfoldable pub table_of : ℤ → Table
table_of (pos zero) = Ag2014
table_of (pos (suc n)) = LiLee
table_of (negsuc n) = LiLee

unfoldable pub sex_of : ℤ → Sex
sex_of (pos zero) = M
sex_of (pos (suc n)) = F
sex_of (negsuc n) = F

-- these numbers are a set's: there are 372, and the first two are each 0 or 1
unfoldable pub are_set : List ℤ → Bool
are_set ns = eqb (length ns) set_length && (is_label (get_or ns 0 (pos 0)) && is_label (get_or ns 1 (pos 0)))

-- the set that they are
unfoldable pub set_of : List ℤ → Params
set_of ns = params_of (table_of (get_or ns 0 (pos 0))) (sex_of (get_or ns 1 (pos 0))) (drop 2 ns)

-- ---- reading a sheet into numbers

-- the numbers with a set's in their first places
unfoldable pub set_over : Params → List ℤ → List ℤ
set_over p before = set_numbers p ++ drop set_length before

-- the sheet's refusal, else short where there are too few places
unfoldable pub read_no : List ℕ → ℕ → ℕ
read_no sheet places =
    let no = refusal_number (read_sheet sheet).refusal in
    cond (eqb no 0) (cond (leb set_length places) 0 (refusal_number BufferTooShort)) no

-- "untouched buffers" where the call is refused
unfoldable pub numbers_after : List ℕ → List ℤ → List ℤ
numbers_after sheet before = cond (eqb (read_no sheet (length before)) 0) (set_over (read_sheet sheet).set before) before

-- ---- writing numbers into a sheet

-- malformed where the numbers are no set's, else the writer's refusal
unfoldable pub write_no : List ℤ → ℕ → ℕ
write_no ns room = refusal_number (cond (are_set ns) (write_refusal (set_of ns) room) Malformed)

unfoldable pub buffer_after : List ℤ → List ℕ → List ℕ
buffer_after ns buffer = cond (are_set ns) (written_buffer (set_of ns) buffer) buffer

-- the sheet's length where it was written, else what stood there
unfoldable pub length_after : List ℤ → ℕ → ℕ → ℕ
length_after ns room before = cond (eqb (write_no ns room) 0) (length (sheet_text (set_of ns))) before
