-- `put_start` meets its contract: nothing for AG2014, else the two lines, one right after the other.
use borrow.Author.Rules.{rules}
use mathlib.Core.Path.{sym}
use mathlib.Core.List.{[], ◌++◌, append-nil}
use mir.Facts.{to_z-of_z}
use Rattle.text_tokens.specs.Text.{bytes_of}
use Rattle.sheet.specs.Sheet.{line_text}
use Rattle.text_printing.specs.code.Put.{Room, Put}
use Rattle.text_printing.specs.laws.PutLaws.{put-none, put_as, room_as, put-length, room-first, room-rest, put-join}
use Rattle.sheet_length.specs.code.Parts.{start_text}
use Rattle.sheet_length.specs.laws.Held.{Held}
use Rattle.sheet_length.specs.laws.PartsLaws.{no_start, start-lines}
use Rattle.sheet_line_writer.proofs.Small.{small-as}
use Rattle.sheet_line_writer.proofs.Line.{line-room, line-put}
use Rattle.sheet_line_writer.proofs.put_start.Goals as goal

pub returns-in-Ag2014 : goal.returns-in-Ag2014
returns-in-Ag2014 c = put_as (sym (no_start _ _ c.in-Ag2014.is)) (put-none _ _)

-- ---- the needs

pub put_line-constant-requires : goal.put_line-constant-requires
unfolding bytes_of
put_line-constant-requires c =
    let start-held : Held c.args.start = let e = to_z-of_z c.ranges.start in record { is = e; small = small-as e c.requires.0 } in
    let room : let s = c.args in Room s.buffer.now s.at (line_text (bytes_of "start") s.start ++ (line_text (bytes_of "c") s.c ++ [])) = room_as (start-lines _ _ c.in-LiLee.is) c.requires.2 in
    let h = start-held in
    (h.small, line-room (bytes_of "start") h (room-first _ room))

pub put_line-requires : goal.put_line-requires
unfolding bytes_of
put_line-requires c =
    let start-held : Held c.args.start = let e = to_z-of_z c.ranges.start in record { is = e; small = small-as e c.requires.0 } in
    let c-held : Held c.args.c = let e = to_z-of_z c.ranges.c in record { is = e; small = small-as e c.requires.1 } in
    let room : let s = c.args in Room s.buffer.now s.at (line_text (bytes_of "start") s.start ++ (line_text (bytes_of "c") s.c ++ [])) = room_as (start-lines _ _ c.in-LiLee.is) c.requires.2 in
    let start-put : let s = c.args in Put s.buffer.now s.at (line_text (bytes_of "start") s.start) c.put_line-constant.new.buffer c.put_line-constant.result = line-put (bytes_of "start") start-held c.put_line-constant.ensures in
    let h = c-held in
    (h.small, line-room (bytes_of "c") h (room-first [] (room-rest start-put room)))

pub shape_of-buffer : goal.shape_of-buffer
unfolding bytes_of
shape_of-buffer c =
    let start-held : Held c.args.start = let e = to_z-of_z c.ranges.start in record { is = e; small = small-as e c.requires.0 } in
    let c-held : Held c.args.c = let e = to_z-of_z c.ranges.c in record { is = e; small = small-as e c.requires.1 } in
    let room : let s = c.args in Room s.buffer.now s.at (line_text (bytes_of "start") s.start ++ (line_text (bytes_of "c") s.c ++ [])) = room_as (start-lines _ _ c.in-LiLee.is) c.requires.2 in
    let start-put : let s = c.args in Put s.buffer.now s.at (line_text (bytes_of "start") s.start) c.put_line-constant.new.buffer c.put_line-constant.result = line-put (bytes_of "start") start-held c.put_line-constant.ensures in
    let c-put : let b = c.put_line-constant in Put b.new.buffer b.result (line_text (bytes_of "c") c.args.c) c.put_line.new.buffer c.put_line.result = line-put (bytes_of "c") c-held c.put_line.ensures in
    let whole : let s = c.args in Put s.buffer.now s.at (start_text s.table s.start s.c) c.put_line.new.buffer c.put_line.result =
    put_as (sym (start-lines _ _ c.in-LiLee.is))
    (put-join start-put (put_as (sym (append-nil _)) c-put) room) in
    put-length whole c.requires.2

pub returns-in-LiLee : goal.returns-in-LiLee
unfolding bytes_of
returns-in-LiLee c =
    let start-held : Held c.args.start = let e = to_z-of_z c.ranges.start in record { is = e; small = small-as e c.requires.0 } in
    let c-held : Held c.args.c = let e = to_z-of_z c.ranges.c in record { is = e; small = small-as e c.requires.1 } in
    let room : let s = c.args in Room s.buffer.now s.at (line_text (bytes_of "start") s.start ++ (line_text (bytes_of "c") s.c ++ [])) = room_as (start-lines _ _ c.in-LiLee.is) c.requires.2 in
    let start-put : let s = c.args in Put s.buffer.now s.at (line_text (bytes_of "start") s.start) c.put_line-constant.new.buffer c.put_line-constant.result = line-put (bytes_of "start") start-held c.put_line-constant.ensures in
    let c-put : let b = c.put_line-constant in Put b.new.buffer b.result (line_text (bytes_of "c") c.args.c) c.put_line.new.buffer c.put_line.result = line-put (bytes_of "c") c-held c.put_line.ensures in
    let whole : let s = c.args in Put s.buffer.now s.at (start_text s.table s.start s.c) c.put_line.new.buffer c.put_line.result =
    put_as (sym (start-lines _ _ c.in-LiLee.is))
    (put-join start-put (put_as (sym (append-nil _)) c-put) room) in
    whole
