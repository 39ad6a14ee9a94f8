-- `couple_of` meets its contract: a set out of its limits is refused, any other is quoted, and every answer meets demand 3.
use mathlib.Core.Path.{sym, ◌∙◌}
use lib.Dec.{T}
use mir.Facts.{to_z-of_z}
use Rattle.set_limits.specs.InLimits.{in_limits}
use Rattle.quote_couple.proofs.Steps.{first_out, second-out, met}
use Rattle.quote_couple.proofs.couple_of.Goals as goal
use Rattle.quote_couple.proofs.couple_of.Tie as tie
use Rattle.quote_couple.proofs.couple_of.Lts as lts
use Rattle.quote_couple.proofs.couple_of.Reads as reads

pub returns-then-not-in_limits : goal.returns-then-not-in_limits
returns-then-not-in_limits c =
    let a = c.args in
    let r = first_out a.first a.second a.kind a.age a.other a.year a.span (sym c.in_limits.ensures ∙ c.if-not-in_limits.true) in
    record { answered = r; honest = (met r).1 }

-- past the first test, the first set is in its limits
first-limits : (e : lts.Else1 tie.the-claims reads.Pre reads.Post tie.handed_clauses) → T (in_limits e.before.before.args.first)
first-limits e = rw (sym e.before.in_limits.ensures ∙ e.if-not-in_limits.false) tt

pub returns-then-not-in_limits-2 : goal.returns-then-not-in_limits-2
returns-then-not-in_limits-2 c =
    let a = c.args in
    let r = second-out a.first a.second a.kind a.age a.other a.year a.span (first-limits c.before.before)
    (sym c.in_limits-2.ensures ∙ c.if-not-in_limits-2.true) in
    record { answered = r; honest = (met r).1 }

pub couple_within-requires : goal.couple_within-requires
couple_within-requires c =
    let l = c.before in
    (first-limits l.before, rw (sym l.in_limits-2.ensures ∙ c.if-not-in_limits-2.false) tt)

pub returns : goal.returns
returns c =
    let f = c.ranges in
    let r = rw (to_z-of_z f.age, to_z-of_z f.other, to_z-of_z f.year, to_z-of_z f.span) at c.couple_within.ensures in
    record { answered = r; honest = (met r).1 }
