-- `start_lines` meets its contract: the two lines, each read or malformed.
use mathlib.Core.Path.{◌≡◌, sym, ap, ◌∙◌}
use mir.Val.{of_z, to_z}
use native.Mathlib.Omega.{arith}
use borrow.Author.Rules.{rules}
use Rattle.std.specs.Int.{w64}
use Rattle.text_words.specs.laws.ShortTextLaws.{holds-joins, holds-sized}
use Rattle.text_tokens.specs.Text.{bytes_of}
use Rattle.sheet.specs.code.Lines.{lines_read}
use Rattle.sheet.proofs.laws.FourLaws.{first-malformed, two-malformed, two-taken}
use Rattle.sheet_set.specs.code.SetLines.{read_start}
use Rattle.sheet_set.proofs.Joined.{joined-holds}
use Rattle.sheet_set.proofs.start_lines.Goals as goal

pub joined-head-requires : goal.joined-head-requires
joined-head-requires c = holds-joins c.three.ensures c.three-2.ensures (omega arith) (omega arith)

pub line_at-requires : goal.line_at-requires
line_at-requires c = holds-sized (joined-holds c.three.ensures c.three-2.ensures c.joined-head.ensures) (omega arith)

pub returns-in_err-start : goal.returns-in_err-start
unfolding read_start bytes_of
returns-in_err-start c =
    let start = joined-holds c.three.ensures c.three-2.ensures c.joined-head.ensures in
    ap (lines_read c.args.bytes.now) c.from_residual.ensures
    ∙ sym (first-malformed _ _ _ (sym (c.in_err-start.ensures (bytes_of "start") (record { text = start.holds }))))

pub line_at-requires-2 : goal.line_at-requires-2
line_at-requires-2 c = holds-sized c.two.ensures (omega arith)

pub returns-in_err-c : goal.returns-in_err-c
unfolding read_start bytes_of
returns-in_err-c c =
    let start = joined-holds c.three.ensures c.three-2.ensures c.joined-head.ensures in
    ap (lines_read c.args.bytes.now) c.from_residual-in_err-c.ensures
    ∙ sym
    (two-malformed _ _ _ (sym (c.in_ok-start.ensures (bytes_of "start") (record { text = start.holds })))
    (sym (c.in_err-c.ensures (bytes_of "c") (record { text = c.two.ensures.holds }))))

pub returns : goal.returns
unfolding read_start bytes_of
returns c =
    let start = joined-holds c.three.ensures c.three-2.ensures c.joined-head.ensures in
    let start-held : to_z w64 (of_z w64 c.in_ok-start.start) ≡ c.in_ok-start.start = search rules in
    let c-held : to_z w64 (of_z w64 c.in_ok-c.c) ≡ c.in_ok-c.c = search rules in
    rw (start-held, c-held)
    (sym
    (two-taken _ _ _ (sym (c.in_ok-start.ensures (bytes_of "start") (record { text = start.holds })))
    (sym (c.in_ok-c.ensures (bytes_of "c") (record { text = c.two.ensures.holds })))))
