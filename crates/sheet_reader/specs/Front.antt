-- The sheet at the front of some bytes, which others may follow: its lines, its reading and the place after it.
use Rattle.std.specs.Prelude.{List, ℕ, length}
use Rattle.text_tokens.specs.Text.{malformed, taken, take_text}
use Rattle.text_lines.specs.Lines.{first_lines}
use Rattle.set_params.specs.declared.Table.{Table}
use Rattle.set_params.specs.declared.Table.TheVariants.{Ag2014, LiLee}
use Rattle.sheet.specs.declared.Reading.{Reading}
use Rattle.sheet.specs.Sheet.{sheet_lines, table_text, read_sheet}

-- the table by the first line: LILEE where that says so, else AG2014, whatever the line is
unfoldable pub table_at : List ℕ → Table
table_at bs = elim (take_text (table_text LiLee) bs) [ malformed ↦ Ag2014 | taken u rest ↦ LiLee ]

-- "The sheet is the first 370 lines"; of 372, "the quote program takes that many when the first line says so"
unfoldable pub front_lines : List ℕ → List ℕ
front_lines bs = first_lines (sheet_lines (table_at bs)) bs

-- "fewer are a torn sheet": a reading of fewer is malformed
unfoldable pub sheet_of : List ℕ → Reading
sheet_of bs = read_sheet (front_lines bs)

-- the place after it
unfoldable pub sheet_end : List ℕ → ℕ
sheet_end bs = length (front_lines bs)
