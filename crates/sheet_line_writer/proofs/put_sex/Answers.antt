-- `put_sex` meets its contract: the line of either sex.
use borrow.Author.Rules.{rules}
use mathlib.Core.Path.{sym, ap}
use Rattle.text_tokens.specs.Text.{bytes_of}
use Rattle.sheet.specs.Sheet.{sex_text}
use Rattle.text_printing.specs.laws.PutLaws.{put_of, put_as, room_as}
use Rattle.sheet_line_writer.proofs.put_sex.Goals as goal

pub put_text-requires : goal.put_text-requires
unfolding sex_text bytes_of
put_text-requires c =
    (room_as (ap sex_text c.in-M.is) c.requires).fits

pub put_text-requires-in-F : goal.put_text-requires-in-F
unfolding sex_text bytes_of
put_text-requires-in-F c =
    (room_as (ap sex_text c.in-F.is) c.requires).fits

pub returns-in-M : goal.returns-in-M
unfolding sex_text bytes_of
returns-in-M c =
    put_as (sym (ap sex_text c.in-M.is)) (put_of c.put_text.ensures)

pub returns-in-F : goal.returns-in-F
unfolding sex_text bytes_of
returns-in-F c =
    put_as (sym (ap sex_text c.in-F.is)) (put_of c.put_text-in-F.ensures)
