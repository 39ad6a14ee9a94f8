-- `put_table` meets its contract: the line of either table.
use borrow.Author.Rules.{rules}
use mathlib.Core.Path.{sym, ap}
use Rattle.text_tokens.specs.Text.{bytes_of}
use Rattle.sheet.specs.Sheet.{table_text}
use Rattle.text_printing.specs.laws.PutLaws.{put_of, put_as, room_as}
use Rattle.sheet_line_writer.proofs.put_table.Goals as goal

pub put_text-requires : goal.put_text-requires
unfolding table_text bytes_of
put_text-requires c =
    (room_as (ap table_text c.in-Ag2014.is) c.requires).fits

pub put_text-requires-in-LiLee : goal.put_text-requires-in-LiLee
unfolding table_text bytes_of
put_text-requires-in-LiLee c =
    (room_as (ap table_text c.in-LiLee.is) c.requires).fits

pub returns-in-Ag2014 : goal.returns-in-Ag2014
unfolding table_text bytes_of
returns-in-Ag2014 c =
    put_as (sym (ap table_text c.in-Ag2014.is)) (put_of c.put_text.ensures)

pub returns-in-LiLee : goal.returns-in-LiLee
unfolding table_text bytes_of
returns-in-LiLee c =
    put_as (sym (ap table_text c.in-LiLee.is)) (put_of c.put_text-in-LiLee.ensures)
