-- `sheets_answer` meets its contract: the sheets' refusal, else the answer of their sets.
use native.Mathlib.Omega.{arith}
use mir.Facts.{to_z-of_z}
use Rattle.c_couple_quote.specs.laws.CoupleLaws.{both-refused, both_read}
use Rattle.c_couple_quote.proofs.sheets_answer.Goals as goal

pub returns-then-refusal_number-ne0 : goal.returns-then-refusal_number-ne0
returns-then-refusal_number-ne0 c =
    let n = c in
    let e = n in
    both-refused _ _ _ _ _ _ _ e.read-one.ensures e.read-two.ensures e.lower_refusal-refusal.ensures
    n.refusal_number.ensures (λ z. omega (arith, z, c.if-refusal_number-ne0.true))

pub returns : goal.returns
returns c =
    let n = c in
    let e = n in
    let f = e.ranges in
    both_read _ _ _ _ _ _ _ e.read-one.ensures e.read-two.ensures e.lower_refusal-refusal.ensures
    n.refusal_number.ensures (omega (arith, c.if-refusal_number-ne0.false))
    (rw (to_z-of_z f.age, to_z-of_z f.other, to_z-of_z f.year, to_z-of_z f.span) at c.couple_of.ensures.answered)
