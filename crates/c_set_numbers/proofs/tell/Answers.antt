-- `tell` meets its contract: the length is told where the number is 0.
use mathlib.Core.Path.{◌≡◌}
use native.Mathlib.Omega.{arith}
use Rattle.c_set_numbers.specs.laws.AnswerLaws.{told-accepted, told-refused}
use Rattle.c_set_numbers.proofs.tell.Goals as goal

pub returns-then-number-eq0 : goal.returns-then-number-eq0
returns-then-number-eq0 c =
    let t = told-accepted c.args.got c.args.len.now c.refusal_number-number.ensures (omega (arith, c.if-number-eq0.true)) in
    record { value = t.0; len_after = t.1 }

pub returns-else-number-eq0 : goal.returns-else-number-eq0
returns-else-number-eq0 c =
    let t = told-refused c.args.got c.args.len.now c.refusal_number-number.ensures (λ (e : c.refusal_number-number.result ≡ 0). omega (arith, e, c.if-number-eq0.false)) in
    record { value = t.0; len_after = t.1 }
