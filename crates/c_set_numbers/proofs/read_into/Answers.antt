-- `read_into` meets its contract: the sheet's refusal, else short, else the set's numbers.
use mathlib.Core.Path.{◌≡◌}
use native.Mathlib.Omega.{arith}
use Rattle.c_set_numbers.specs.laws.AnswerLaws.{read-refused, read_short, read-accepted}
use Rattle.c_set_numbers.proofs.read_into.Goals as goal

pub returns-then-number-ne0 : goal.returns-then-number-ne0
returns-then-number-ne0 c =
    let n = c in
    let r = n in
    let m = read-refused c.args.sheet.now c.args.values.now r.read-got.ensures n.refusal_number-number.ensures
    (λ (e : c.refusal_number-number.result ≡ 0). omega (arith, e, c.if-number-ne0.true)) in
    record { value = m.0; values_after = m.1 }

pub returns-then-values-lt-SET_LENGTH : goal.returns-then-values-lt-SET_LENGTH
returns-then-values-lt-SET_LENGTH c =
    let t = c in
    let n = t in
    let r = n in
    let m = read_short c.args.sheet.now c.args.values.now r.read-got.ensures n.refusal_number-number.ensures (omega (arith, t.if-number-ne0.false))
    (omega (arith, t.if-values-lt-SET_LENGTH.true)) c.refusal_number.ensures in
    record { value = m.0; values_after = m.1 }

pub returns : goal.returns
returns c =
    let p = c in
    let t = p in
    let n = t in
    let r = n in
    let m = read-accepted c.args.sheet.now c.args.values.now r.read-got.ensures n.refusal_number-number.ensures (omega (arith, t.if-number-ne0.false))
    (omega (arith, t.if-values-lt-SET_LENGTH.false)) p.put_set.ensures in
    record { value = m.0; values_after = m.1 }
