-- `sheet_target` meets its contract: the sheet's refusal, else the answer of its set.
use borrow.Author.Rules.{rules}
use native.Mathlib.Omega.{arith}
use mir.Facts.{to_z-of_z}
use Rattle.c_target_year.proofs.laws.TargetLaws.{target-refused, target-given}
use Rattle.c_target_year.proofs.sheet_target.Goals as goal

pub returns-then-refusal_number-ne0 : goal.returns-then-refusal_number-ne0
returns-then-refusal_number-ne0 c =
    let n = c in
    let r = n in
    target-refused _ _ _ r.read-got.ensures n.refusal_number.ensures (λ e. omega (arith, e, c.if-refusal_number-ne0.true))

pub returns : goal.returns
returns c =
    let n = c in
    let r = n in
    let f = r.ranges in
    target-given _ _ _ r.read-got.ensures n.refusal_number.ensures (omega (arith, c.if-refusal_number-ne0.false))
    (rw (to_z-of_z f.age, to_z-of_z f.target) at c.target_of.ensures.answered)
