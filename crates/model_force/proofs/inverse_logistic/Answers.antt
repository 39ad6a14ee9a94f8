-- `inverse_logistic` meets its contract: the force is at most the unit, so the logarithm's ends and those of H fit.
use mathlib.Core.Path.{ap, ◌∙◌}
use Prim.Native.Nat.{ℕ, ◌≤◌}
use native.Mathlib.Omega.{arith}
use lib.IntN.{pos, ◌+ℤ◌}
use Rattle.number_exponential.specs.declared.Ends.{Ends}
use Rattle.number_exponential.specs.Units.{grid_of}
use Rattle.number_whole.proofs.Signed.{both_ends}
use Rattle.model_logarithm.specs.Logarithm.{log_lower, log_upper, inverse_logistic}
use Rattle.model_force.proofs.Ends.{log_limit, under-lower, under-upper, exp-small, log-lower-small, log-upper-small, end-sum}
use Rattle.model_force.proofs.inverse_logistic.Goals as goal
use Rattle.model_force.proofs.inverse_logistic.Goals.{After-log_between-more}

-- the force is at most the unit

pub log_between-more-requires : goal.log_between-more-requires
log_between-more-requires c = exp-small c.args.grid _ c.force_to_90-u.ensures

-- the logarithm's ends
lower-small : (c : After-log_between-more) → c.log_between-more.result.lower ≤ log_limit
lower-small c =
    let u = c.args.grid in
    rw c.log_between-more.ensures.0 (log-lower-small u _ (omega (arith, log_between-more-requires c.before)))

upper-small : (c : After-log_between-more) → c.log_between-more.result.upper ≤ log_limit
upper-small c =
    let u = c.args.grid in
    rw c.log_between-more.ensures.1 (log-upper-small u _ (omega (arith, log_between-more-requires c.before)))

pub overflow_cast-result : goal.overflow_cast-result
overflow_cast-result c = omega (arith, lower-small c.before)

pub overflow_add-result : goal.overflow_add-result
overflow_add-result c = (end-sum (under-lower c.args.grid c.requires) (lower-small c.before.before.before.before)).0

pub overflow_cast-result-2 : goal.overflow_cast-result-2
overflow_cast-result-2 c = omega (arith, upper-small c.before.before.before.before.before)

pub overflow_add-result-2 : goal.overflow_add-result-2
overflow_add-result-2 c =
    (end-sum (under-upper c.args.grid c.requires) (upper-small c.before.before.before.before.before.before)).0

pub returns : goal.returns
unfolding inverse_logistic
returns c =
    let l = c.before.before.before.before.before.before in
    let g = grid_of c.args.grid in
    let m = c.args.m in
    let e = c.force_to_90-u.ensures in
    both_ends
    ((end-sum (under-lower c.args.grid c.requires) (lower-small l)).1
    ∙ ap (λ (n : ℕ). m.lower +ℤ pos n) (c.log_between-more.ensures.0 ∙ ap (λ (k : Ends). log_lower g k.lower) e))
    ((end-sum (under-upper c.args.grid c.requires) (upper-small l)).1
    ∙ ap (λ (n : ℕ). m.upper +ℤ pos n) (c.log_between-more.ensures.1 ∙ ap (λ (k : Ends). log_upper g k.upper) e))
