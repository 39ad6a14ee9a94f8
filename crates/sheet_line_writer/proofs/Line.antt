-- A line whose number the code holds in 64 bits is the line of the number that those bits stand for.
use mathlib.Core.Path.{sym, ap}
use mathlib.Core.List.{List}
use Prim.Native.Nat.{ℕ}
use lib.IntN.{ℤ}
use mir.Syntax.{w64}
use mir.Val.{to_z, of_z}
use Rattle.sheet.specs.Sheet.{line_text}
use Rattle.sheet_length.specs.laws.Held.{Held}
use Rattle.text_printing.specs.code.Put.{Room, Put}
use Rattle.text_printing.specs.laws.PutLaws.{put_as, room_as}

module _ (key : List ℕ) {z : ℤ} (h : Held z) {bytes : List ℕ} {at : ℕ} where
  -- what the writer of a line asks
  pub line-room : Room bytes at (line_text key z) → Room bytes at (line_text key (to_z w64 (of_z w64 z)))
  line-room room = room_as (sym (ap (line_text key) h.is)) room

  -- what it gives
  pub line-put : {after : List ℕ} {next : ℕ} → Put bytes at (line_text key (to_z w64 (of_z w64 z))) after next
      → Put bytes at (line_text key z) after next
  line-put put = put_as (ap (line_text key) h.is) put
