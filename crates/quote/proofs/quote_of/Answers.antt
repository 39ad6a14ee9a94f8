-- `quote_of` meets its contract: a set out of its limits is refused, any other is quoted, and every answer meets demand 3.
use mathlib.Core.Path.{ap}
use mathlib.Core.Path.{sym, ◌∙◌}
use borrow.Author.Rules.{rules}
use mir.Facts.{to_z-of_z}
use Rattle.quote.proofs.Steps.{refused-out-of-limits, for-again, met}
use Rattle.quote.proofs.quote_of.Goals as goal

pub returns-then-not-in_limits : goal.returns-then-not-in_limits
returns-then-not-in_limits c =
    let a = c.args in
    let r = refused-out-of-limits a.p a.kind a.age a.year a.term (sym c.in_limits.ensures ∙ c.if-not-in_limits.true) in
    record { answered = r; honest = (met r).1 }

pub answer_within-requires : goal.answer_within-requires
answer_within-requires c =
    let e = sym c.in_limits.ensures ∙ c.if-not-in_limits.false in
    rw e tt

pub returns : goal.returns
returns c =
    let f = c.ranges in
    let q = rw (to_z-of_z f.age, to_z-of_z f.year, to_z-of_z f.term) at c.answer_within.ensures ∙ for-again _ _ _ _ _ in
    record { answered = q; honest = (met q).1 }
