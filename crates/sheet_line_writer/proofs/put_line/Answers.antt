-- `put_line` meets its contract: the key, and right after it what follows a key.
use borrow.Author.Rules.{rules}
use mathlib.Core.Path.{◌≡◌, sym, ap}
use mathlib.Core.List.{◌++◌}
use mir.Syntax.{w64}
use mir.Val.{to_z, of_z}
use mir.Facts.{to_z-of_z}
use Rattle.sheet.specs.Sheet.{line_text}
use Rattle.text_printing.specs.code.Put.{Room, Put}
use Rattle.text_printing.specs.laws.PutLaws.{put_of, put_as, room_as, room-first, room-rest, put-join}
use Rattle.sheet_line_writer.specs.code.Value.{value_text}
use Rattle.sheet_line_writer.proofs.Small.{small-as}
use Rattle.sheet_line_writer.proofs.put_line.Goals as goal

-- ---- the needs

pub put_text-value-requires : goal.put_text-value-requires
unfolding line_text value_text
put_text-value-requires c =
    let room : Room c.args.buffer.now c.args.at (c.args.key.now ++ value_text c.args.v) = c.requires.1 in
    let room-key : Room c.args.buffer.now c.args.at c.args.key.now = room-first (value_text c.args.v) room in
    room-key.fits

pub put_value-requires : goal.put_value-requires
unfolding line_text value_text
put_value-requires c =
    let value : to_z w64 (of_z w64 c.args.v) ≡ c.args.v = to_z-of_z c.ranges.v in
    let room : Room c.args.buffer.now c.args.at (c.args.key.now ++ value_text c.args.v) = c.requires.1 in
    let key : let s = c.args in Put s.buffer.now s.at s.key.now c.put_text-value.new.buffer c.put_text-value.result = put_of c.put_text-value.ensures in
    let room-value : Room c.put_text-value.new.buffer c.put_text-value.result (value_text c.args.v) = room-rest key room in
    let e = value in
    (small-as e c.requires.0, room_as (sym (ap value_text e)) room-value)

pub returns : goal.returns
unfolding line_text value_text
returns c =
    let value : to_z w64 (of_z w64 c.args.v) ≡ c.args.v = to_z-of_z c.ranges.v in
    let room : Room c.args.buffer.now c.args.at (c.args.key.now ++ value_text c.args.v) = c.requires.1 in
    let key : let s = c.args in Put s.buffer.now s.at s.key.now c.put_text-value.new.buffer c.put_text-value.result = put_of c.put_text-value.ensures in
    let last = put_as (ap value_text value) c.put_value.ensures in
    put-join key last room
