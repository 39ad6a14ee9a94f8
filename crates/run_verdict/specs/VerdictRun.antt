-- The run of the program `verdict` (paper 02, E3), from the input's bytes to the output's: a sheet, one line `year=` and a
-- number formed as in a sheet, and the column, which is all that follows; it prints one line.
use Rattle.std.specs.Prelude.{cond, List, ℕ, eqb, ℤ, drop}
use Rattle.text_tokens.specs.Text.{bytes_of, Parse, malformed, taken}
use Rattle.set_refusal.specs.declared.Refusal.TheVariants.{Malformed}
use Rattle.set_refusal.specs.Refusals.{refusal_number}
use Rattle.sheet.specs.Sheet.{read_line}
use Rattle.run_answer_text.specs.AnswerText.{refusal_line}
use Rattle.run_sheets.specs.declared.Front.{Front}
use Rattle.run_sheets.specs.declared.Sheets.TheVariants.{One}
use Rattle.run_sheets.specs.Front.{front_of}
use Rattle.run_column_verdict.specs.ColumnVerdict.{column_verdict}
use Rattle.run_verdict_text.specs.VerdictText.{verdict_line}

-- a line as in a sheet, with the key `year`: its number, and what follows its line feed
unfoldable pub read_year : List ℕ → Parse ℤ
read_year bs = read_line (bytes_of "year") bs

-- `no=` alone and its number, 1 or 2, where the sheet is refused; else the year's line
unfoldable pub line_by : Front → ℤ → List ℕ → List ℕ
line_by f year column =
    cond (eqb (refusal_number f.refusal) 0) (verdict_line year (column_verdict f.first year column))
    (refusal_line f.refusal)

-- the year's line follows the sheet, and behind it is the column; `no=` alone also where the line is malformed or missing. Of
-- the two numbers the lower is given: a malformed year's line is 1 where the sheet is out of limits.
unfoldable pub verdict_by : Front → List ℕ → List ℕ
verdict_by f input =
    elim (read_year (drop f.next input)) [ malformed ↦ refusal_line Malformed | taken year column ↦ line_by f year column ]

-- the whole run; an input past 65,536 bytes has a malformed sheet
unfoldable pub verdict_run : List ℕ → List ℕ
verdict_run input = verdict_by (front_of One input) input
