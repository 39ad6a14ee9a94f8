-- `read_first` meets its contract: what is read at the front is the sheet there, and ends where it ends; where there is none its
-- lines are counted.
use mathlib.Core.Path.{sym, ap, ◌∙◌}
use Prim.Native.Nat.{ℕ}
use native.Mathlib.Omega.{arith}
use lib.ListN.{length}
use Rattle.text_lines.specs.Lines.{first_lines}
use Rattle.sheet_reader.specs.Front.{front_lines, sheet_end}
use Rattle.sheet_reader.specs.laws.FirstLaws.{first-none, first-reading, first-place}
use Rattle.sheet_reader.proofs.read_first.Goals as goal

pub returns-in_default : goal.returns-in_default
unfolding sheet_end front_lines
returns-in_default c =
    let bytes = c.args.bytes.now in
    (c.refused.ensures ∙ sym (first-none bytes (sym c.in_default.ensures)), c.lines_end.ensures ∙ ap (λ (k : ℕ). length (first_lines k bytes)) c.line_count.ensures)

pub returns : goal.returns
returns c =
    let read = c.in-Some.ensures in
    (c.reading_of.ensures ∙ sym (first-reading _ _ _ read), omega (arith, first-place c.args.bytes.now c.in-Some.field-0.set c.in-Some.field-0.next read))
