-- `write` meets its contract: out of limits, else short, else the sheet.
use mathlib.Core.Bool.{not}
use mathlib.Core.Path.{ap}
use mathlib.Core.Path.{◌≡◌, sym, ◌∙◌}
use mathlib.Core.Bool.{true}
use native.Mathlib.Omega.{arith}
use borrow.Author.Tests.{not-true, not-false}
use Rattle.set_limits.specs.InLimits.{in_limits}
use Rattle.sheet_writer.specs.laws.Answers.{out-of-limits, short, accepted}
use Rattle.sheet_writer.proofs.write.Goals as goal

pub returns-then-not-in_limits : goal.returns-then-not-in_limits
returns-then-not-in_limits c =
    let s = c.args in
    let t = c.in_limits in
    out-of-limits s.p s.buffer.now (sym t.ensures ∙ not-true t.result (ap not c.if-not-in_limits.true))

pub sheet_len-requires : goal.sheet_len-requires
sheet_len-requires c =
    let in-limits : in_limits c.args.p ≡ true = let t = c.in_limits in sym t.ensures ∙ not-false t.result (ap not c.if-not-in_limits.false) in
    rw in-limits tt

pub returns-then-buffer-sheet_len : goal.returns-then-buffer-sheet_len
returns-then-buffer-sheet_len c =
    let in-limits : in_limits c.args.p ≡ true = let t = c.in_limits in sym t.ensures ∙ not-false t.result (ap not c.if-not-in_limits.false) in
    let s = c.args in
    let h = c.sheet_len.ensures in
    short s.p s.buffer.now in-limits (omega (arith, h, c.if-buffer-sheet_len.true))

pub put_sheet-end-requires : goal.put_sheet-end-requires
put_sheet-end-requires c =
    let in-limits : in_limits c.args.p ≡ true = let t = c.in_limits in sym t.ensures ∙ not-false t.result (ap not c.if-not-in_limits.false) in (
      rw in-limits tt,
      record { fits = omega (arith, c.sheet_len.ensures, c.if-buffer-sheet_len.false) },
    )

pub returns : goal.returns
returns c =
    let in-limits : in_limits c.args.p ≡ true = let t = c.in_limits in sym t.ensures ∙ not-false t.result (ap not c.if-not-in_limits.false) in
    let s = c.args in
    accepted s.p s.buffer.now in-limits (omega (arith, c.sheet_len.ensures, c.if-buffer-sheet_len.false))
    c.put_sheet-end.ensures
