-- `line_count` meets its contract: the first line is LILEE's, or another.
use mathlib.Core.Path.{sym, ◌∙◌}
use Rattle.text_tokens.specs.Text.{bytes_of}
use Rattle.sheet.specs.Sheet.{table_text}
use Rattle.sheet_reader.specs.laws.FirstLaws.{lilee-lines, other-lines}
use Rattle.sheet_reader.proofs.line_count.Goals as goal

pub returns-then-text_at : goal.returns-then-text_at
unfolding table_text bytes_of
returns-then-text_at c = sym (lilee-lines _ (sym c.before.text_at.ensures ∙ c.if-text_at.true))

pub returns : goal.returns
unfolding table_text bytes_of
returns c = sym (other-lines _ (sym c.before.text_at.ensures ∙ c.if-text_at.false))
