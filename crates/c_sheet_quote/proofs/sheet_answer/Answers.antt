-- `sheet_answer` meets its contract: the sheet's refusal, else the answer of its set.
use native.Mathlib.Omega.{arith}
use mir.Facts.{to_z-of_z}
use Rattle.c_sheet_quote.specs.laws.AnswerLaws.{answer-refused, answer-given}
use Rattle.c_sheet_quote.proofs.sheet_answer.Goals as goal

pub returns-then-refusal_number-ne0 : goal.returns-then-refusal_number-ne0
returns-then-refusal_number-ne0 c =
    let n = c in
    let r = n in
    answer-refused _ _ _ _ _ r.read-got.ensures n.refusal_number.ensures (λ e. omega (arith, e, c.if-refusal_number-ne0.true))

pub returns : goal.returns
returns c =
    let n = c in
    let r = n in
    let f = r.ranges in
    answer-given _ _ _ _ _ r.read-got.ensures n.refusal_number.ensures (omega (arith, c.if-refusal_number-ne0.false))
    (rw (to_z-of_z f.age, to_z-of_z f.year, to_z-of_z f.term) at c.quote_of.ensures.answered)
