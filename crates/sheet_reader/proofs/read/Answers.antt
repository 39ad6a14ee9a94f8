-- `read` meets its contract: the length, then the sheet at the front, which nothing follows.
use mathlib.Core.Path.{sym, ◌∙◌}
use Rattle.sheet_reader.specs.laws.SheetLaws.{too_long, none-reading, followed-reading, whole-reading}
use Rattle.sheet_reader.proofs.read.Goals as goal
use Rattle.sheet_reader.proofs.read.Goals.{in_default-via-in-Some+else-bytes-next, in_default-via-in_default}

pub returns-then-bytes-gt-MOST_BYTES : goal.returns-then-bytes-gt-MOST_BYTES
returns-then-bytes-gt-MOST_BYTES c = c.refused.ensures ∙ sym (too_long _ c.if-bytes-gt-MOST_BYTES.true)

pub returns-in-Some : goal.returns-in-Some
returns-in-Some c =
    c.reading_of.ensures
    ∙ sym (whole-reading _ c.if-bytes-gt-MOST_BYTES.false _ _ c.in-Some.ensures c.if-bytes-next.true)

pub returns-in_default : goal.returns-in_default
returns-in_default c =
    let short = c.if-bytes-gt-MOST_BYTES.false in
    c.refused-in_default.ensures
    ∙ sym
    (elim c.in_default.branch [
      | in_default-via-in-Some+else-bytes-next w ↦ followed-reading _ short _ _ w.in-Some.ensures w.if-bytes-next.false
      | in_default-via-in_default w ↦ none-reading _ short w.in_default.ensures
    ])
