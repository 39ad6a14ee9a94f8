-- `logistic_end` meets its contract: below 0 by E/(1 + E), else by 1/(1 + E); each step fits, as E is at most the unit.
use mathlib.Core.Path.{◌≡◌, ap, ◌∙◌}
use mathlib.Core.Bool.{not}
use Prim.Native.Nat.{ℕ, ◌+◌, ◌≤◌}
use native.Mathlib.Omega.{arith}
use borrow.Author.Rules.{rules}
use Rattle.number_exponential.specs.Units.{grid_of}
use Rattle.number_exponential.proofs.laws.GridFacts.{unit-most}
use Rattle.model_logistic.proofs.Force.{quotient, negative, other, small, share-end, over-end}
use Rattle.model_logistic.proofs.logistic_end.Goals as goal

-- the exponential's end is at most the unit, which fits
e-small : (c : goal.After-exp_end-e) → c.exp_end-e.result ≤ (grid_of c.before.before.before.args.grid).unit
e-small c = let s = c.before.before.before in small s.args.grid s.args.upper _ c.exp_end-e.ensures

e-small-2 : (c : goal.After-exp_end) → c.exp_end.result ≤ (grid_of c.before.before.before.args.grid).unit
e-small-2 c = let s = c.before.before.before in small s.args.grid (not s.args.upper) _ c.exp_end.ensures

pub overflow_sub-g : goal.overflow_sub-g
overflow_sub-g c = (negative c.before.before.requires c.if-g-lt0.true).fits

pub overflow_cast-g : goal.overflow_cast-g
overflow_cast-g c = (negative c.before.before.requires c.if-g-lt0.true).cast

pub overflow_add-one : goal.overflow_add-one
overflow_add-one c =
    let o = c.before.before in
    omega (arith, e-small c, o.unit_by-one.ensures, unit-most o.before.args.grid)

pub quotient-requires : goal.quotient-requires
quotient-requires c = let o = c.before.before in omega (arith, e-small c, o.unit_by-one.ensures)

pub returns-then-g-lt0 : goal.returns-then-g-lt0
returns-then-g-lt0 c =
    let e = c.before in
    let t = e.before in
    let s = t.before.before in
    let g = grid_of s.args.grid in
    c.quotient.ensures ∙ ap (λ (n : ℕ). quotient g s.args.upper e.exp_end-e.result (n + e.exp_end-e.result)) t.before.unit_by-one.ensures
    ∙ share-end g s.args.upper (negative s.requires t.if-g-lt0.true) e.exp_end-e.ensures

pub overflow_cast-g-2 : goal.overflow_cast-g-2
overflow_cast-g-2 c = (other c.before.before.requires c.if-g-lt0.false).cast

pub overflow_add-one-2 : goal.overflow_add-one-2
overflow_add-one-2 c =
    let o = c.before.before in
    omega (arith, e-small-2 c, o.unit_by-one.ensures, unit-most o.before.args.grid)

pub quotient-requires-2 : goal.quotient-requires-2
quotient-requires-2 c = let o = c.before.before in omega (arith, e-small-2 c, o.unit_by-one.ensures)

pub returns : goal.returns
returns c =
    let e = c.before in
    let t = e.before in
    let s = t.before.before in
    let g = grid_of s.args.grid in
    c.quotient-2.ensures ∙ ap (λ (n : ℕ). quotient g s.args.upper n (n + e.exp_end.result)) t.before.unit_by-one.ensures
    ∙ over-end g s.args.upper (other s.requires t.if-g-lt0.false) e.exp_end.ensures
