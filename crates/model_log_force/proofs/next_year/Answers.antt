-- `next_year` meets its contract: K grows by theta, and kappa by its step.
use mathlib.Core.Path.{◌≡◌, refl}
use native.Mathlib.Numerals.{add-one}
use native.Mathlib.Omega.{arith}
use lib.IntN.{◌+ℤ◌}
use mir.Syntax.{w64}
use mir.Val.{SFits}
use Rattle.number_whole.proofs.laws.Bound.{bits, fits, back}
use Rattle.number_whole.proofs.Signed.{sum}
use Rattle.model_log_force.proofs.next_year.Goals as goal
use Rattle.model_log_force.proofs.next_year.Goals.{After-kappa_step-next, Start}

pub kappa_step-next-requires : goal.kappa_step-next-requires
kappa_step-next-requires c = let p = c.before.requires in (p.dynamics, p.kappas)

-- the function's start, from after the step
abbrev start : After-kappa_step-next → Start
start c = c.before.before

pub overflow_add-result : goal.overflow_add-result
overflow_add-result c = omega (arith, (start c.before).requires.number)

-- K with theta
next : (c : After-kappa_step-next) → let y = (start c).args.y in let d = (start c).args.d in
    SFits w64 (bits y.period +ℤ bits d.theta) × (bits (bits y.period +ℤ bits d.theta) ≡ y.period +ℤ d.theta)
next c = let p = (start c).requires in sum (back p.period tt) (back p.dynamics.theta tt) refl (fits p.next tt)

pub overflow_add-result-2 : goal.overflow_add-result-2
overflow_add-result-2 c = (next c.before.before.before.before.before).0

pub returns : goal.returns
returns c =
    let k = c.before.before.before.before.before in
    record { number = add-one _; period = (next k).1; kappas = k.kappa_step-next.ensures }
