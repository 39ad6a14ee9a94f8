-- `step_on` meets its contract, grid by grid.
use mathlib.Core.Path.{sym, ap, ◌∙◌}
use Prim.Native.Nat.{ℕ, ◌*◌, ◌≤◌}
use native.Mathlib.Nat.{mul-one}
use native.Mathlib.Omega.{arith}
use lib.Dec.{lit≤}
use Rattle.number_exponential.specs.Units.{grid_of}
use Rattle.quote_paths.specs.declared.Fold.{Fold}
use Rattle.quote_paths.specs.declared.Fold.TheVariants.{Death, Survival, Expectancy, Annuity}
use Rattle.quote_kinds.specs.Kinds.{step_of}
use Rattle.quote_kinds.proofs.step_on.Goals as goal

step_small : (f : Fold) → step_of f ≤ 100000000
unfolding step_of
step_small Death = lit≤ tt
step_small Survival = lit≤ tt
step_small Expectancy = lit≤ tt
step_small (Annuity rate) = lit≤ tt

pub overflow_mul-result : goal.overflow_mul-result
overflow_mul-result c = omega (arith, c.step_of-step.ensures, step_small c.args.fold)

pub returns-in-Fine : goal.returns-in-Fine
unfolding grid_of
returns-in-Fine c =
    let s = c in
    ap (λ (n : ℕ). n * 10000) c.step_of-step.ensures ∙ sym (ap (λ b. step_of s.args.fold * (grid_of b).scale) c.in-Fine.is)

pub returns-in-Coarse : goal.returns-in-Coarse
unfolding grid_of
returns-in-Coarse c =
    let s = c in
    c.step_of-step.ensures ∙ sym (mul-one (step_of s.args.fold)) ∙ sym (ap (λ b. step_of s.args.fold * (grid_of b).scale) c.in-Coarse.is)
