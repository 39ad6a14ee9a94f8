-- Two sheets, by the flag of the code.
use Rattle.std.specs.Prelude.{Bool, cond, List, ℕ, drop}
use Rattle.sheet_reader.specs.Front.{sheet_end}
use Rattle.run_sheets.specs.declared.Front.{Front}
use Rattle.run_sheets.specs.Front.{in_turn, by_number, two_sheets}

-- by number, or in turn
unfoldable pub two_by : Bool → List ℕ → Front
two_by numbered input =
    two_sheets (λ first second. cond numbered (by_number first second) (in_turn first second)) input
    (drop (sheet_end input) input)
