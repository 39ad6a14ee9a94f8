-- `from_sex` meets its contract: either sex, and then the other lines.
use mathlib.Core.Path.{sym, ◌∙◌}
use native.Mathlib.Omega.{arith}
use Rattle.text_tokens.specs.Text.{bytes_of}
use Rattle.text_tokens.specs.laws.TextLaws.{text-room}
use Rattle.sheet.specs.Sheet.{sex_text}
use Rattle.sheet_reader.specs.laws.SheetLaws.{sex-m, sex-f, sex-none}
use Rattle.sheet_reader.proofs.from_sex.Goals as goal

pub overflow_add-at : goal.overflow_add-at
overflow_add-at c = omega (arith, text-room _ _ _ (sym c.if-text_at.ensures))

pub returns-then-text_at : goal.returns-then-text_at
unfolding sex_text bytes_of
returns-then-text_at c = c.set_at.ensures ∙ sym (sex-m _ _ _ (sym c.if-text_at.ensures))

pub overflow_add-at-then-text_at-2 : goal.overflow_add-at-then-text_at-2
overflow_add-at-then-text_at-2 c = omega (arith, text-room _ _ _ (sym c.if-text_at-2.ensures))

pub returns-then-text_at-2 : goal.returns-then-text_at-2
unfolding sex_text bytes_of
returns-then-text_at-2 c =
    c.set_at-then-text_at-2.ensures ∙ sym (sex-f _ _ _ (sym c.if-text_at.ensures) (sym c.if-text_at-2.ensures))

pub returns : goal.returns
unfolding sex_text bytes_of
returns c = sym (sex-none _ _ _ (sym c.if-text_at.ensures) (sym c.if-text_at-2.ensures))
