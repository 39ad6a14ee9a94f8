-- `age_in_limits` meets its contract: the four tests in their order, up to the first that fails.
use borrow.Author.Rules.{rules}
use Rattle.std.proofs.Common.{◌≡◌, refl, ◌∙◌, Bool, ◌&&◌}
use mir.Syntax.{w64}
use mir.Val.{SFits}
use Rattle.set_params.specs.declared.Age.{Age}
use Rattle.set_params.specs.Limits.{level_limit, slope_limit, within}
use Rattle.set_limits.specs.InLimits.{age_in_limits}
use Rattle.set_limits.proofs.Sizes.{tested, then-both, else-both, four-regrouped}
use Rattle.set_limits.proofs.age_in_limits.Goals as goal
use Rattle.set_limits.proofs.age_in_limits.Goals.{then-within, else-within, then-within-2, else-within-2}
use Rattle.set_limits.proofs.age_in_limits.Goals.{Start, Joined-within-2}

record Fields (a : Age) : Type 0 where
  level : SFits w64 a.level
  slope : SFits w64 a.slope
  alpha : SFits w64 a.alpha
  beta : SFits w64 a.beta

fields : (s : Start) → Fields s.args.a
fields s = record { level = search rules; slope = search rules; alpha = search rules; beta = search rules }

-- the first three tests
abbrev three : Age → Bool
three a = (within level_limit a.level && within slope_limit a.slope) && within level_limit a.alpha

-- with the last one they are the age's
all : (a : Age) → (three a && within slope_limit a.beta) ≡ age_in_limits a
unfolding age_in_limits
all a =
    four-regrouped (within level_limit a.level) (within slope_limit a.slope) (within level_limit a.alpha) (within slope_limit a.beta)

first-three : (c : Joined-within-2) → Fields c.args.a → c.if-within-2.value ≡ three c.args.a
first-three c f =
    let both : c.if-within.value ≡ (within level_limit c.args.a.level && within slope_limit c.args.a.slope) =
    elim c.if-within.branch [
      | then-within w ↦
          then-both w.if-within.true (tested level_limit c.within.ensures f.level) (tested slope_limit w.within-then-within.ensures f.slope)
          w.value-is
      | else-within w ↦ else-both _ w.if-within.false (tested level_limit c.within.ensures f.level) w.value-is
    ] in
    elim c.if-within-2.branch [
      | then-within-2 w ↦ then-both w.if-within-2.true both (tested level_limit w.within-then-within-2.ensures f.alpha) w.value-is
      | else-within-2 w ↦ else-both _ w.if-within-2.false both w.value-is
    ]

pub returns-then-within-3 : goal.returns-then-within-3
returns-then-within-3 c =
    let w = goal.at.returns-then-within-3 c in
    let f = fields w.Start in
    then-both c.if-within-3.true (first-three w.Joined-within-2 f) (tested slope_limit c.within-then-within-3.ensures f.beta) refl
    ∙ all c.args.a

pub returns-else-within-3 : goal.returns-else-within-3
returns-else-within-3 c =
    let w = goal.at.returns-else-within-3 c in
    else-both (within slope_limit c.args.a.beta) c.if-within-3.false (first-three w.Joined-within-2 (fields w.Start)) refl
    ∙ all c.args.a
