-- `number_at` meets its contract: past the end nothing stands, after a minus the number without its sign is negated and
-- 0 is malformed, else it is taken as it is; it is below 10¹⁵, so nothing overflows.
use mathlib.Core.Path.{sym, ◌∙◌}
use native.Mathlib.Omega.{arith}
use lib.ListN.{get_or}
use Rattle.text_tokens.proofs.NumberSteps.{number_past, minus-most, sign-malformed, sign-none, sign_zero, sign-minus}
use Rattle.text_tokens.proofs.NumberSteps.{unsigned_small, positive-fits, minus-fits}
use Rattle.text_numbers.proofs.number_at.Goals as goal

pub returns-then-bytes-at : goal.returns-then-bytes-at
returns-then-bytes-at c = sym (number_past _ _ (omega arith))

pub overflow_add-at : goal.overflow_add-at
overflow_add-at c =
    omega (arith, c.minus_at-minus.ensures, minus-most (get_or c.args.bytes.now c.args.at 0))

pub returns-in_err-value : goal.returns-in_err-value
returns-in_err-value c =
    c.from_residual.ensures
    ∙ sym (sign-malformed _ _ (omega arith) c.minus_at-minus.ensures c.unsigned_at.ensures c.in_err-value.was)

pub overflow_cast-result : goal.overflow_cast-result
overflow_cast-result c = positive-fits _ (unsigned_small _ _ c.unsigned_at.ensures c.in_ok-value.was)

pub returns-then-minus-eq0 : goal.returns-then-minus-eq0
returns-then-minus-eq0 c =
    sym
    (sign-none _ _ (omega arith) c.minus_at-minus.ensures c.unsigned_at.ensures c.in_ok-value.was
    c.if-minus-eq0.true)

pub returns-then-value-eq0 : goal.returns-then-value-eq0
returns-then-value-eq0 c =
    sym
    (sign_zero _ _ (omega arith) c.minus_at-minus.ensures c.unsigned_at.ensures c.in_ok-value.was
    c.if-minus-eq0.false c.if-value-eq0.true)

pub overflow_cast-result-2 : goal.overflow_cast-result-2
overflow_cast-result-2 c = positive-fits _ (unsigned_small _ _ c.unsigned_at.ensures c.in_ok-value.was)

pub overflow_sub-result : goal.overflow_sub-result
overflow_sub-result c = minus-fits _ (unsigned_small _ _ c.unsigned_at.ensures c.in_ok-value.was)

pub returns : goal.returns
returns c =
    sym
    (sign-minus _ _ (omega arith) c.minus_at-minus.ensures c.unsigned_at.ensures c.in_ok-value.was
    c.if-minus-eq0.false c.if-value-eq0.false)
