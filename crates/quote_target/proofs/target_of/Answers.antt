-- `target_of` meets its contract: a set out of its limits is refused, any other is answered.
use mathlib.Core.Path.{◌≡◌, sym, ◌∙◌}
use lib.IntN.{ℤ}
use mir.Facts.{to_z-of_z}
use Rattle.set_params.specs.declared.Params.{Params}
use Rattle.quote_target.specs.Target.{TargetAnswer, target_answer}
use Rattle.quote_target.specs.Target.{Honest}
use Rattle.quote_target.proofs.laws.SoughtLaws.{out-of-limits}
use Rattle.quote_target.proofs.laws.Theorem.{honest}
use Rattle.quote_target.proofs.target_of.Goals as goal

-- an answer that is the definition's is honest
met : {p : Params} {age target : ℤ} {r : TargetAnswer} → r ≡ target_answer p age target
    → (r ≡ target_answer p age target) × Honest p age target r
met {p} {age} {target} e = (e, rw e (honest p age target))

pub returns-then-not-in_limits : goal.returns-then-not-in_limits
returns-then-not-in_limits c =
    let a = c.args in
    let r = out-of-limits a.p a.age a.target (sym c.in_limits.ensures ∙ c.if-not-in_limits.true) in
    record { answered = r; honest = (met r).1 }

pub target_within-requires : goal.target_within-requires
target_within-requires c = rw (sym c.before.in_limits.ensures ∙ c.if-not-in_limits.false) tt

pub returns : goal.returns
returns c =
    let f = c.ranges in
    let r = rw (to_z-of_z f.age, to_z-of_z f.target) at c.target_within.ensures in
    record { answered = r; honest = (met r).1 }
