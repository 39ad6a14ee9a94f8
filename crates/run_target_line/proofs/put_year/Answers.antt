-- `put_year` meets its contract: the year with its name, and right after it the line feed.
use mathlib.Core.List.{◌++◌}
use mir.Facts.{to_z-of_z}
use Rattle.text_tokens.specs.Text.{bytes_of}
use Rattle.text_tokens.specs.Number.{number_text}
use Rattle.text_printing.specs.code.Put.{Room, Put}
use Rattle.text_printing.specs.laws.PutLaws.{put_of, room-first, room-rest, put-join}
use Rattle.run_target_line.specs.TargetLine.{year_text}
use Rattle.run_target_line.proofs.put_year.Goals as goal
use Rattle.run_target_line.proofs.put_year.Goals.{After-put_signed-end, Start}

abbrev start : After-put_signed-end → Start
start c = c.before.before.before.before.before

room : (s : Start)
    → Room s.args.buffer.now s.args.at ((bytes_of " year=" ++ number_text s.args.year) ++ bytes_of "\n")
unfolding year_text
room s = s.requires.1

year : (c : After-put_signed-end) → let s = c.args in
    Put s.buffer.now s.at (bytes_of " year=" ++ number_text s.year) c.put_signed-end.new.buffer c.put_signed-end.result
unfolding bytes_of
year c = rw (to_z-of_z c.ranges.year) at c.put_signed-end.ensures

pub put_signed-end-requires : goal.put_signed-end-requires
unfolding bytes_of
put_signed-end-requires c =
    let s = c.before.before.before in rw (to_z-of_z s.ranges.year) (s.requires.0, room-first (bytes_of "\n") (room s.before))

pub put_text-requires : goal.put_text-requires
unfolding bytes_of
put_text-requires c = let w = c.before.before.before.before in (room-rest {u = bytes_of "\n"} (year w.before) (room (start w.before))).fits

pub returns : goal.returns
unfolding year_text bytes_of
returns c =
    let w = c.before.before.before.before.before.before.before in
    put-join (year w.before.before) (put_of c.put_text.ensures) (room (start w.before.before))
