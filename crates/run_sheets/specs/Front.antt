-- The front of an input: one sheet, or two that stand one after the other, each with its own number of lines.
use Rattle.std.specs.Prelude.{Bool, true, cond, ◌&&◌, List, ℕ, ◌+◌, eqb, ltb, leb, length, drop}
use Rattle.set_refusal.specs.declared.Refusal.{Refusal}
use Rattle.set_refusal.specs.declared.Refusal.TheVariants.{Malformed}
use Rattle.set_refusal.specs.Refusals.{refusal_number}
use Rattle.set_params.specs.Set.{blank}
use Rattle.sheet.specs.Sheet.{most_bytes}
use Rattle.sheet_reader.specs.Front.{sheet_of, sheet_end}
use Rattle.run_sheets.specs.declared.Front.{Front}
use Rattle.run_sheets.specs.declared.Sheets.{Sheets}
use Rattle.run_sheets.specs.declared.Sheets.TheVariants.{One, InTurn, ByNumber}

-- a refused front: the number of the sheet that is named, or 0, the refusal, and the place after what was read
unfoldable pub stopped : ℕ → Refusal → ℕ → Front
stopped named r next = record { refusal = r; named = named; first = blank; second = blank; next = next }

-- one sheet, which is not named where it is refused
unfoldable pub one_sheet : List ℕ → Front
one_sheet input =
    record {
      refusal = (sheet_of input).refusal;
      named = 0;
      first = (sheet_of input).set;
      second = (sheet_of input).set;
      next = sheet_end input;
    }

-- ---- two sheets

-- whether the second sheet's answer is given, by the two refusals' numbers, of which 0 is none

-- the first sheet is tried first
unfoldable pub in_turn : ℕ → ℕ → Bool
in_turn first second = eqb first 0

-- "Each number is tried on the first life, then the second, before the next number" (paper 02, E8): the lower number is given,
-- and of two equal ones the first's
unfoldable pub by_number : ℕ → ℕ → Bool
by_number first second = cond (eqb first 0) true (ltb 0 second && ltb second first)

-- the second's answer
unfoldable pub both_sheets : List ℕ → List ℕ → Front
both_sheets input rest =
    record {
      refusal = (sheet_of rest).refusal;
      named = 2;
      first = (sheet_of input).set;
      second = (sheet_of rest).set;
      next = sheet_end input + sheet_end rest;
    }

-- the second's answer where that is given, and else the first's refusal
unfoldable pub two_sheets : (ℕ → ℕ → Bool) → List ℕ → List ℕ → Front
two_sheets given input rest =
    cond (given (refusal_number (sheet_of input).refusal) (refusal_number (sheet_of rest).refusal)) (both_sheets input rest)
    (stopped 1 (sheet_of input).refusal (sheet_end input))

-- ---- by the form

-- the second sheet stands behind the first
unfoldable pub sheets_of : Sheets → List ℕ → Front
sheets_of One input = one_sheet input
sheets_of InTurn input = two_sheets in_turn input (drop (sheet_end input) input)
sheets_of ByNumber input = two_sheets by_number input (drop (sheet_end input) input)

-- "input past 65,536 bytes" is malformed whichever
unfoldable pub front_of : Sheets → List ℕ → Front
front_of sheets input =
    cond (leb (length input) most_bytes) (sheets_of sheets input) (stopped 0 Malformed (sheet_end input))
