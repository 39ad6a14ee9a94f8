-- `reading_of` meets its contract: out of limits, or accepted.
use mathlib.Core.Path.{sym, ◌∙◌}
use Rattle.sheet_reader.specs.laws.SheetLaws.{out-of-limits, accepted}
use Rattle.sheet_reader.proofs.reading_of.Goals as goal

pub returns-then-not-in_limits : goal.returns-then-not-in_limits
returns-then-not-in_limits c = c.refused.ensures ∙ sym (out-of-limits _ (sym c.if-not-in_limits.ensures))

pub returns : goal.returns
returns c = sym (accepted _ (sym c.if-not-in_limits.ensures))
