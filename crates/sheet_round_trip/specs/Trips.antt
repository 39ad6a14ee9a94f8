-- What comes back of a set that is written and then read, and of a sheet that is read and then written.
use Rattle.std.specs.Prelude.{ℕ, Bool, cond, ◌&&◌, List, ◌++◌, eqb, leb, length, drop}
use Rattle.set_params.specs.declared.Params.{Params}
use Rattle.set_refusal.specs.declared.Refusal.{Refusal}
use Rattle.set_refusal.specs.declared.Refusal.TheVariants.{Accepted, Malformed, BufferTooShort}
use Rattle.sheet.specs.declared.Reading.{Reading}
use Rattle.sheet.specs.declared.Written.{Written}
use Rattle.set_refusal.specs.Refusals.{refusal_number}
use Rattle.sheet.specs.Sheet.{refused, read_sheet, write_refusal}

-- nothing is refused
unfoldable pub accepted : Refusal → Bool
accepted r = eqb (refusal_number r) 0

-- ---- a set

-- where the writer accepts, the same set; elsewhere it wrote nothing, and an empty input is malformed
unfoldable pub read_back : Params → ℕ → Reading
read_back p room = cond (accepted (write_refusal p room)) (record { refusal = Accepted; set = p }) (refused Malformed)

-- ---- a sheet

-- the reader accepts, and there is room
unfoldable pub copies : List ℕ → ℕ → Bool
copies bs room = accepted (read_sheet bs).refusal && leb (length bs) room

-- the same bytes, and after them those that were there; else all those that were there
unfoldable pub copied : List ℕ → List ℕ → List ℕ
copied bs buffer = cond (copies bs (length buffer)) (bs ++ drop (length bs) buffer) buffer

-- the reader's refusal, or short
unfoldable pub copy_refusal : List ℕ → ℕ → Refusal
copy_refusal bs room =
    cond (accepted (read_sheet bs).refusal) (cond (leb (length bs) room) Accepted BufferTooShort) (read_sheet bs).refusal

unfoldable pub copy_answer : List ℕ → ℕ → Written
copy_answer bs room = record { refusal = copy_refusal bs room; len = cond (copies bs room) (length bs) 0 }
