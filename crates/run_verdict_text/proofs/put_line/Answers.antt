-- `put_line` meets its contract: the year, and right after it the verdict or the refusal.
use borrow.Author.Rules.{rules}
use mathlib.Core.List.{◌++◌}
use mir.Facts.{to_z-of_z}
use Rattle.text_tokens.specs.Text.{bytes_of}
use Rattle.text_tokens.specs.Number.{number_text}
use Rattle.text_printing.specs.code.Put.{Room, Put}
use Rattle.text_printing.specs.laws.PutLaws.{room-first, room-rest, put-join}
use Rattle.run_verdict_text.specs.VerdictText.{judged_text, verdict_line}
use Rattle.run_verdict_text.proofs.put_line.Goals as goal
use Rattle.run_verdict_text.proofs.put_line.Goals.{After-put_signed-end, Start}

abbrev start : After-put_signed-end → Start
start c = c.before.before.before.before.before

room : (s : Start)
    → Room s.args.out.now 0 ((bytes_of "year=" ++ number_text s.args.year) ++ judged_text s.args.judged)
unfolding verdict_line
room s = s.requires.1

year : (c : After-put_signed-end) → let s = c.args in
    Put s.out.now 0 (bytes_of "year=" ++ number_text s.year) c.put_signed-end.new.buffer c.put_signed-end.result
unfolding bytes_of
year c = rw (to_z-of_z c.ranges.year) at c.put_signed-end.ensures

pub put_signed-end-requires : goal.put_signed-end-requires
unfolding bytes_of
put_signed-end-requires c =
    let s = c.before.before.before in rw (to_z-of_z s.ranges.year) (s.requires.0, room-first (judged_text s.args.judged) (room s.before))

pub put_judged-requires : goal.put_judged-requires
put_judged-requires c = let w = c.before.before.before in room-rest (year w) (room (start w))

pub returns : goal.returns
unfolding verdict_line
returns c =
    let w = c.before.before.before.before.before.before in
    put-join (year w.before) c.put_judged.ensures (room (start w.before))
