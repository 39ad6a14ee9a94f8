-- `sheet_verdict` meets its contract: the sheet's refusal, else what is answered of the column by its set.
use native.Mathlib.Omega.{arith}
use mir.Facts.{to_z-of_z}
use Rattle.run_column_verdict.proofs.laws.VerdictLaws.{verdict-refused, verdict-given}
use Rattle.run_column_verdict.proofs.sheet_verdict.Goals as goal

pub returns-then-refusal_number-ne0 : goal.returns-then-refusal_number-ne0
returns-then-refusal_number-ne0 c =
    let n = c in
    let r = n in
    verdict-refused _ _ _ r.read-got.ensures n.refusal_number.ensures (λ e. omega (arith, e, c.if-refusal_number-ne0.true))

pub returns : goal.returns
returns c =
    let n = c in
    let r = n in
    let f = r.ranges in
    verdict-given _ _ _ r.read-got.ensures n.refusal_number.ensures (omega (arith, c.if-refusal_number-ne0.false))
    (rw (to_z-of_z f.year) at c.verdict_on.ensures.answered)
