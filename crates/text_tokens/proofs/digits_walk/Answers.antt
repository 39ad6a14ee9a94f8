-- `digits_walk` meets its contract. The loop's invariant: the digits read so far, with their value, go on with those that
-- are not read yet.
use mathlib.Core.Path.{◌≡◌, sym}
use native.Mathlib.Omega.{arith}
use Rattle.text_tokens.specs.Number.{is_digit}
use Rattle.text_tokens.proofs.DigitSteps.{run-start, run-bound, run_end, run-break, run-next}
use Rattle.text_tokens.proofs.digits_walk.Goals as goal

pub loop-count-init : goal.loop-count-init
loop-count-init c = run-start _ _

pub returns-then-not-is_ascii_digit : goal.returns-then-not-is_ascii_digit
unfolding is_digit
returns-then-not-is_ascii_digit c =
    run-break _ _ c.loop-count.invariant (omega arith) (sym c.if-not-is_ascii_digit.ensures.value)

pub overflow_mul-value : goal.overflow_mul-value
overflow_mul-value c = omega (arith, run-bound _ _ c.loop-count.invariant (omega arith))

pub overflow_add-value : goal.overflow_add-value
overflow_add-value c = omega (arith, run-bound _ _ c.loop-count.invariant (omega arith))

pub loop-count-preserved : goal.loop-count-preserved
unfolding is_digit
loop-count-preserved c =
    rw c.from.ensures
    (run-next _ _ c.loop-count.invariant (omega arith) (omega arith) (sym c.if-not-is_ascii_digit.ensures.value))

pub returns : goal.returns
returns c =
    let all : c.min-most.result ≡ c.loop-count.count = omega arith in
    rw all (run_end _ _ c.loop-count.invariant (omega arith))
