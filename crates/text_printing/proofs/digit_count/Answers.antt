-- `digit_count` meets its contract: the digits counted and those of the rest are one more than those of the number.
use mathlib.Core.Path.{ap}
use native.Mathlib.Omega.{arith}
use lib.ListN.{length, length-append}
use Rattle.text_printing.specs.laws.NumberLengths.{text-small, text-step, unsigned-length}
use Rattle.text_printing.proofs.digit_count.Goals as goal

pub overflow_add-count : goal.overflow_add-count
overflow_add-count c = omega (arith, unsigned-length c.before.before.args.n)

pub loop-rest-preserved : goal.loop-rest-preserved
loop-rest-preserved c =
    let l = c.before.loop-rest in
    let e = simp length-append at (ap length (text-step l.rest (omega arith) (omega arith))) in
    omega arith

pub returns : goal.returns
returns c =
    let e = ap length (text-small c.before.loop-rest.rest (omega arith)) in
    omega arith
