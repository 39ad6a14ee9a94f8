-- `front` meets its contract: either table, and then the lines after the first.
use mathlib.Core.Path.{sym, ◌∙◌}
use Rattle.text_tokens.specs.Text.{bytes_of}
use Rattle.sheet.specs.Sheet.{table_text}
use Rattle.sheet_reader.specs.laws.SheetLaws.{table-ag2014, table-lilee, table_none}
use Rattle.sheet_reader.proofs.front.Goals as goal

pub returns-then-text_at : goal.returns-then-text_at
unfolding table_text bytes_of
returns-then-text_at c = c.from_sex.ensures ∙ sym (table-ag2014 _ (sym c.if-text_at.ensures))

pub returns-then-text_at-2 : goal.returns-then-text_at-2
unfolding table_text bytes_of
returns-then-text_at-2 c =
    c.from_sex-then-text_at-2.ensures ∙ sym (table-lilee _ (sym c.if-text_at.ensures) (sym c.if-text_at-2.ensures))

pub returns : goal.returns
unfolding table_text bytes_of
returns c = sym (table_none _ (sym c.if-text_at.ensures) (sym c.if-text_at-2.ensures))
