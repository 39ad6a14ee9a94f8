-- "Standard input is a sheet, then query lines", or two sheets and then query lines: the whole run of a program, from the
-- input's bytes to the output's, and into a buffer.
use Rattle.std.specs.Prelude.{cond, List, [], ◌∷◌, ◌++◌, ℕ, ◌+◌, ◌*◌, eqb, leb, length, drop}
use Rattle.text_lines.specs.Lines.{lines}
use Rattle.text_tokens.specs.Text.{bytes_of}
use Rattle.text_tokens.specs.Number.{unsigned_text}
use Rattle.set_refusal.specs.declared.Refusal.{Refusal}
use Rattle.set_refusal.specs.declared.Refusal.TheVariants.{Accepted, BufferTooShort}
use Rattle.set_refusal.specs.Refusals.{refusal_number}
use Rattle.sheet.specs.declared.Written.{Written}
use Rattle.run_answer_text.specs.AnswerText.{refusal_line, refused_text}
use Rattle.run_sheets.specs.declared.Front.{Front}
use Rattle.run_sheets.specs.declared.Sheets.{Sheets}
use Rattle.run_sheets.specs.declared.Sheets.TheVariants.{One, InTurn, ByNumber}
use Rattle.run_sheets.specs.Front.{front_of}
use Rattle.run_line.specs.declared.Mode.{Mode}
use Rattle.run_line.specs.declared.Mode.TheVariants.{Quotes, Compare, Couples, Targets}
use Rattle.run_line.specs.Line.{line_answer, longest_line}
use Rattle.run_verdict.specs.VerdictRun.{verdict_run}
use Rattle.run_verdict_text.specs.VerdictText.{most_verdict}
use Rattle.run.specs.declared.Program.{Program}
use Rattle.run.specs.declared.Program.TheVariants.{Lines, Verdict}

-- ---- a program of lines

-- the answers to lines, one after the other, by what answers one of them
unfoldable pub answers_to : (List ℕ → List ℕ) → List (List ℕ) → List ℕ
answers_to answer [] = []
answers_to answer (l ∷ ls) = answer l ++ answers_to answer ls

-- the answers to the lines from a place on
abbrev pub answers_from : (List ℕ → List ℕ) → List ℕ → ℕ → List ℕ
answers_from answer input at = answers_to answer (lines (drop at input))

-- a comparison takes two sheets and couples do; of couples' "each number is tried on the first life, then the second, before the
-- next number"
unfoldable pub sheets_by : Mode → Sheets
sheets_by (Quotes ends) = One
sheets_by Compare = InTurn
sheets_by Couples = ByNumber
sheets_by Targets = One

-- "a refused sheet .. prints `no=` and its number as the one line of the run"; of two sheets it is named, `sheet=1 no=…` or
-- `sheet=2 no=…`
unfoldable pub refused_run : ℕ → Refusal → List ℕ
refused_run named r = cond (eqb named 0) (refusal_line r) ((bytes_of "sheet=" ++ unsigned_text named) ++ refused_text r)

-- every line after the sheets is answered, also what follows the last line feed
unfoldable pub output_of : Mode → Front → List ℕ → List ℕ
output_of mode f input =
    cond (eqb (refusal_number f.refusal) 0) (answers_from (line_answer mode f.first f.second) input f.next)
    (refused_run f.named f.refusal)

unfoldable pub lines_run : Mode → List ℕ → List ℕ
lines_run mode input = output_of mode (front_of (sheets_by mode) input) input

-- ---- any program

unfoldable pub run_of : Program → List ℕ → List ℕ
run_of (Lines mode) input = lines_run mode input
run_of Verdict input = verdict_run input

-- room for the output of any input of n bytes: five bytes for each byte and one line more, or the one line
unfoldable pub run_room : Program → ℕ → ℕ
run_room (Lines mode) n = 5 * n + longest_line mode
run_room Verdict n = most_verdict

-- ---- into a buffer

-- a text into a buffer that must have room for so many bytes: refused as short where it has not, and then no byte is written;
-- else it stands at the front, and the bytes after it keep their values
unfoldable pub text_answer : ℕ → List ℕ → ℕ → Written
text_answer need text room =
    record { refusal = cond (leb need room) Accepted BufferTooShort; len = cond (leb need room) (length text) 0 }

unfoldable pub text_buffer : ℕ → List ℕ → List ℕ → List ℕ
text_buffer need text buffer = cond (leb need (length buffer)) (text ++ drop (length text) buffer) buffer
