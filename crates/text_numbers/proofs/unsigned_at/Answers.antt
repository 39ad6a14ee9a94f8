-- `unsigned_at` meets its contract: the digits that were read are a number where they are 1 to 15 and the first is `0`
-- only where it is alone.
use mathlib.Core.Path.{sym}
use mathlib.Core.Logic.{⊎_elim}
use native.Mathlib.Omega.{arith}
use Rattle.text_tokens.proofs.NumberSteps.{count-within, malformed-none, malformed-long, malformed-zero, taken-one, taken_more}
use Rattle.text_numbers.proofs.unsigned_at.Goals as goal
use Rattle.text_numbers.proofs.unsigned_at.Goals.{else-run-gt1-via-then-run-gt1+else-bytes-at-eq48, else-run-gt1-via-else-run-gt1}

pub returns-then-run-eq0 : goal.returns-then-run-eq0
returns-then-run-eq0 c =
    let read = c.digits_at-run.ensures in
    sym (⊎_elim (λ w. malformed-none read w) (λ w. malformed-long read w.1) c.then-run-eq0.either)

pub bounds-bytes-at : goal.bounds-bytes-at
bounds-bytes-at c =
    omega (arith, count-within c.digits_at-run.ensures)

pub returns-then-bytes-at-eq48 : goal.returns-then-bytes-at-eq48
returns-then-bytes-at-eq48 c =
    let read = c.digits_at-run.ensures in
    sym (malformed-zero read (omega arith) c.if-bytes-at-eq48.true)

pub overflow_add-result : goal.overflow_add-result
overflow_add-result c =
    omega (arith, count-within c.digits_at-run.ensures)

pub returns : goal.returns
returns c =
    let r = c.digits_at-run.ensures in
    elim c.else-run-gt1.branch [
      | else-run-gt1-via-then-run-gt1+else-bytes-at-eq48 w ↦
          sym (taken_more r (omega arith) (omega arith) w.if-bytes-at-eq48.false)
      | else-run-gt1-via-else-run-gt1 w ↦ sym (taken-one r (omega arith))
    ]
