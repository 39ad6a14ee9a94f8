-- `year_tells` meets its contract: the two tests in their order.
use mathlib.Core.Path.{◌≡◌, sym, ◌∙◌}
use mathlib.Core.Bool.{true}
use mir.Facts.{to_z-of_z}
use Rattle.quote_target.specs.Target.{reaches, year_tells}
use Rattle.quote_target.proofs.year_tells.Goals as goal
use Rattle.quote_target.proofs.year_tells.Tie as tie
use Rattle.quote_target.proofs.year_tells.Lts as lts
use Rattle.quote_target.proofs.year_tells.Reads as reads

upper : (c : lts.After-reaches tie.the-claims reads.Pre reads.Post) → c.reaches.result ≡ reaches c.before.args.target c.before.args.e.upper
upper c = rw (to_z-of_z c.before.ranges.target) at c.reaches.ensures

lower : (c : lts.After-reaches2 tie.the-claims reads.Pre reads.Post) → let s = c.before.before.before in
    c.reaches-2.result ≡ reaches s.args.target s.args.e.lower
lower c = rw (to_z-of_z c.before.before.before.ranges.target) at c.reaches-2.ensures

-- past the first test, the upper end does
upper-does : (c : lts.Else1 tie.the-claims reads.Pre reads.Post) → reaches c.args.target c.args.e.upper ≡ true
upper-does c = sym (upper c.before) ∙ c.if-not-reaches.false

pub returns-then-not-reaches : goal.returns-then-not-reaches
unfolding year_tells
returns-then-not-reaches c = let e = sym (upper c.before) ∙ c.if-not-reaches.true in rw e

pub returns-then-not-reaches-2 : goal.returns-then-not-reaches-2
unfolding year_tells
returns-then-not-reaches-2 c =
    let e = sym (lower c.before) ∙ c.if-not-reaches-2.true in
    rw (upper-does c.before.before, e)

pub returns : goal.returns
unfolding year_tells
returns c =
    let e = sym (lower c.before) ∙ c.if-not-reaches-2.false in
    rw (upper-does c.before.before, e, to_z-of_z c.before.before.before.before.ranges.year)
