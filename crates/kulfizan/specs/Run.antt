-- The whole run of an input as a call gives it: its number, and the buffer and the length after it.
use Rattle.std.specs.Prelude.{ℕ, ◌+◌, ◌*◌, not, cond, List, eqb, leb, length}
use Rattle.set_refusal.specs.declared.Refusal.TheVariants.{Accepted, BufferTooShort}
use Rattle.set_refusal.specs.Refusals.{refusal_number}
use Rattle.run_line.specs.declared.Mode.TheVariants.{Quotes}
use Rattle.run.specs.declared.Program.{Program}
use Rattle.run.specs.declared.Program.TheVariants.{Lines}
use Rattle.run.specs.Run.{text_buffer, run_of}

-- 0 prints as the program `quotes` does, any other number as `ends`
unfoldable pub program_of : ℕ → Program
program_of ends = Lines (Quotes (not (eqb ends 0)))

-- room for the output of any input of n bytes
unfoldable pub room_for : ℕ → ℕ
room_for n = 5 * n + 159

unfoldable pub run_no : List ℕ → ℕ → ℕ
run_no input room = refusal_number (cond (leb (room_for (length input)) room) Accepted BufferTooShort)

unfoldable pub run_buffer : List ℕ → ℕ → List ℕ → List ℕ
run_buffer input ends buffer = text_buffer (room_for (length input)) (run_of (program_of ends) input) buffer

-- the output's length where it was written, else what stood there
unfoldable pub run_length : List ℕ → ℕ → ℕ → ℕ → ℕ
run_length input ends room before = cond (leb (room_for (length input)) room) (length (run_of (program_of ends) input)) before
