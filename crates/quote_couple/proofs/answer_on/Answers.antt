-- `answer_on` meets its contract: a cell out of range is refused, and else the couple's value has its ends.
use mathlib.Core.Path.{◌≡◌, ap, ap₂, ◌∙◌, refl}
use mathlib.Core.Bool.{◌&&◌}
use Prim.Native.Nat.{ℕ, ◌*◌, ◌≤◌}
use native.Mathlib.Omega.{arith}
use lib.ListN.{length, take, length-take}
use Rattle.number_exponential.specs.Units.{grid_of}
use Rattle.number_exponential.proofs.laws.GridFacts.{unit-sound, unit-most}
use Rattle.number_folds.specs.code.Code.{AtMost, most_factors}
use Rattle.quote_paths.specs.Path.{factors}
use Rattle.quote_paths.proofs.laws.Answers.{path-length, factors-length}
use Rattle.quote_paths.proofs.laws.Width.{factors-chances}
use Rattle.quote_walks.specs.code.Code.{path_is}
use Rattle.quote_along.specs.code.Code.{in_range_or}
use Rattle.quote_along.proofs.Value.{path-chances, out-of-range, step_fits, quoted}
use Rattle.quote_kinds.specs.Kinds.{rule_of, step_of}
use Rattle.quote_kinds.specs.declared.Rule.{Rule}
use Rattle.quote_couple_kinds.specs.CoupleKinds.{single_of}
use Rattle.quote_two_lives.specs.TwoLives.{couple_over}
use Rattle.quote_two_lives.proofs.laws.Sizes.{couple-at-most}
use Rattle.quote_couple.specs.Couple.{couple_step}
use Rattle.quote_couple.specs.code.Code.{paths_ends, paths_answer}
use Rattle.quote_couple.proofs.answer_on.Goals as goal
use Rattle.quote_couple.proofs.answer_on.Tie as tie
use Rattle.quote_couple.proofs.answer_on.Lts as lts
use Rattle.quote_couple.proofs.answer_on.Reads as reads

pub returns-in_default : goal.returns-in_default
unfolding in_range_or paths_answer
returns-in_default c = rw (← c.in_default.ensures.ok)

pub returns-in_default-factors_of : goal.returns-in_default-factors_of
unfolding paths_answer
returns-in_default-factors_of c = out-of-range _ (ap₂ ◌&&◌ c.in-Some.ensures.ok c.in_default-factors_of.ensures.ok)

-- ---- the factors of both

pub couple_over-e-requires : goal.couple_over-e-requires
couple_over-e-requires c =
    let u = c.args.grid in
    let n = c.args.path.count in
    let one = c.in-Some.ensures in
    let two = c.in-Some-factors_of.ensures in (
      path-chances u c.in-Some.one c.requires.0 one.ends,
      rw c.requires.2 (path-chances u c.in-Some-factors_of.two c.requires.1 two.ends),
      omega (arith, length-take n c.in-Some.one, length-take n c.in-Some-factors_of.two, one.size, two.size),
    )

-- the ends are those of the two paths
ends_read : (c : lts.After-couple_over tie.the-claims reads.Pre reads.Post) → let a = c.args in
    c.couple_over-e.result ≡ paths_ends a.first a.second a.kind (path_is a.path) (path_is a.other) a.grid
ends_read c =
    let second = ap (λ (n : ℕ). take n c.in-Some-factors_of.two) c.requires.2 ∙ c.in-Some-factors_of.ensures.ends in
    c.couple_over-e.ensures ∙ ap₂ (couple_over c.args.kind (grid_of c.args.grid)) c.in-Some.ensures.ends second

-- ---- the figure

step_is : (c : lts.After-step_on tie.the-claims reads.Pre reads.Post) → c.step_on.result ≡ couple_step c.args.kind * (grid_of c.args.grid).scale
step_is c =
    c.step_on.ensures
    ∙ ap (λ (r : Rule). step_of r.fold * (grid_of c.args.grid).scale) (c.rule_of-rule.ensures ∙ ap rule_of c.single_of.ensures)

small : (c : lts.After-couple_over tie.the-claims reads.Pre reads.Post) → AtMost (172 * (grid_of c.args.grid).unit) c.couple_over-e.result
small c =
    let u = c.args.grid in
    let g = grid_of c.args.grid in
    let w = c.args.path in
    let n : length (factors g c.args.first (path_is w)) ≤ most_factors =
    rw (factors-length g c.args.first (path_is w), path-length w.cohort w.age w.year w.count) c.requires.0.room in
    rw (ends_read c)
    (couple-at-most g c.args.kind most_factors n (factors-chances g (unit-sound u) _ _) (factors-chances g (unit-sound u) _ _))

pub figure_of-figure-requires : goal.figure_of-figure-requires
figure_of-figure-requires c =
    let e = small c.before.before.before in
    let i = step_is c in
    let u = c.args.grid in
    let k = step_fits u (rule_of (single_of c.args.kind)).fold in
    let m = unit-most u in
    (omega arith, omega arith, omega (arith, e.lower), omega (arith, e.upper))

pub returns : goal.returns
unfolding in_range_or paths_answer
returns c =
    let t = c.before in
    rw (← c.in-Some.ensures.ok, ← c.in-Some-factors_of.ensures.ok)
    (quoted (couple_step c.args.kind) refl (ends_read t.before.before.before) (rw (step_is t) at c.figure_of-figure.ensures))
