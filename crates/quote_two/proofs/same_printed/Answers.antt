-- `same_printed` meets its contract, from what `quote_of` ensures of the two answers.
use mathlib.Core.Path.{sym, ◌∙◌}
use mir.Facts.{to_z-of_z}
use Rattle.quote_two.specs.laws.ClaimLaws.{Promised, first-not-printed, second-not-printed, equal-printed, different-printed}
use Rattle.quote_two.proofs.same_printed.Goals as goal
use Rattle.quote_two.proofs.same_printed.Tie as tie
use Rattle.quote_two.proofs.same_printed.Lts as lts
use Rattle.quote_two.proofs.same_printed.Reads as reads

-- what is promised of the two answers
first : (c : lts.After-steps_of2 tie.the-claims reads.Pre reads.Post tie.handed_clauses) →
    Promised c.args.p c.args.kind c.args.age c.args.year c.args.term c.quote_of.result
first c =
    let f = c.ranges in
    let e = c.quote_of.ensures in (
      rw (to_z-of_z f.age, to_z-of_z f.year, to_z-of_z f.term) at e.answered,
      rw (to_z-of_z f.age, to_z-of_z f.year, to_z-of_z f.term) at e.honest,
    )

second : (c : lts.After-steps_of2 tie.the-claims reads.Pre reads.Post tie.handed_clauses) →
    Promised c.args.p2 c.args.kind2 c.args.age2 c.args.year2 c.args.term2 c.quote_of-2.result
second c =
    let f = c.ranges in
    let e = c.quote_of-2.ensures in (
      rw (to_z-of_z f.age2, to_z-of_z f.year2, to_z-of_z f.term2) at e.answered,
      rw (to_z-of_z f.age2, to_z-of_z f.year2, to_z-of_z f.term2) at e.honest,
    )

pub returns-in_default : goal.returns-in_default
returns-in_default c =
    let t = c.before in
    first-not-printed (first t) (second t) c.requires (sym c.steps_of-first.ensures ∙ c.in_default.is)

pub returns-in_default-second : goal.returns-in_default-second
returns-in_default-second c =
    let t = c.before.before in
    second-not-printed (first t) (second t) c.requires (sym c.steps_of-second.ensures ∙ c.in_default-second.is)

pub returns-then-n-m : goal.returns-then-n-m
returns-then-n-m c =
    let t = c.before.before.before in
    equal-printed (first t) (second t) c.requires (sym c.steps_of-first.ensures ∙ c.in-Some.is)
    (sym c.steps_of-second.ensures ∙ c.in-Some-second.is) c.if-n-m.true

pub returns : goal.returns
returns c =
    let t = c.before.before.before in
    different-printed (first t) (second t) c.requires (sym c.steps_of-first.ensures ∙ c.in-Some.is)
    (sym c.steps_of-second.ensures ∙ c.in-Some-second.is) c.if-n-m.false
