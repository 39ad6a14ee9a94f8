-- `table_len` meets its contract: the first line of either table.
use mathlib.Core.Path.{sym}
use Rattle.text_tokens.specs.Text.{bytes_of}
use Rattle.sheet.specs.Sheet.{table_text}
use Rattle.sheet_length.specs.laws.PartsLaws.{table-length}
use Rattle.sheet_length.proofs.table_len.Goals as goal

pub returns-in-Ag2014 : goal.returns-in-Ag2014
unfolding table_text bytes_of
returns-in-Ag2014 c = sym (table-length c.in-Ag2014.is)

pub returns-in-LiLee : goal.returns-in-LiLee
unfolding table_text bytes_of
returns-in-LiLee c = sym (table-length c.in-LiLee.is)
