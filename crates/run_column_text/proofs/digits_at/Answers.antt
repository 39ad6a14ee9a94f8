-- `digits_at` meets its contract. The loop's invariant: the digits that are left, read on from the present value, are the whole
-- number, and there is room for them. The measure is how many are left.
use borrow.Author.Tests.{ltb-true, ltb-false}
use mathlib.Core.Path.{◌≡◌, refl, sym, ◌∙◌}
use mathlib.Core.Logic.{⊎_elim}
use native.Mathlib.Omega.{arith}
use Prim.Native.Nat.{◌+◌, ◌-◌}
use Rattle.text_tokens.specs.laws.DigitLaws.{digit-between, digit-below, digit-above}
use Rattle.text_tokens.specs.laws.FixedLaws.{read_all}
use Rattle.run_column_text.specs.laws.QLaws.{place-past, place_other, place-digit}
use Rattle.run_column_text.proofs.DigitSteps.{room-start, room_bound, room_next}
use Rattle.run_column_text.proofs.digits_at.Goals as goal

pub loop-done-init : goal.loop-done-init
loop-done-init c =
    let e : c.args.count - 0 ≡ c.args.count = omega arith in
    rw e (room-start (omega arith) (omega arith), refl)

pub returns-then-bytes-next : goal.returns-then-bytes-next
returns-then-bytes-next c =
    let l = c.loop-done in
    sym (l.invariant.1 ∙ place-past _ l.value (c.args.count - l._done) l.next (omega arith) (omega arith))

pub returns-then-digit-lt48 : goal.returns-then-digit-lt48
returns-then-digit-lt48 c =
    let l = c.loop-done in
    sym
    (l.invariant.1
    ∙ place_other _ l.value (c.args.count - l._done) l.next (omega arith) (omega arith)
    (⊎_elim (λ w. digit-below _ (omega arith)) (λ w. digit-above _ (omega (arith, ltb-true))) c.then-digit-lt48.either))

pub overflow_mul-value : goal.overflow_mul-value
overflow_mul-value c = omega (arith, room_bound c.loop-done.invariant.0)

pub overflow_cast-value : goal.overflow_cast-value
overflow_cast-value c = omega (arith, ltb-false)

pub overflow_add-value : goal.overflow_add-value
overflow_add-value c = omega (arith, ltb-false, room_bound c.loop-done.invariant.0)

pub loop-done-preserved : goal.loop-done-preserved
loop-done-preserved c =
    let l = c.loop-done in
    let left = c.args.count - l._done in
    let e : c.args.count - (l._done + 1) ≡ left - 1 = omega arith in
    rw e (
      room_next left (omega arith) (omega (arith, ltb-false)) l.invariant.0,
      l.invariant.1
          ∙ place-digit _ l.value left l.next (omega arith) (omega arith)
          (digit-between _ (omega arith) (omega (arith, ltb-false))),
    )

pub returns : goal.returns
returns c =
    let l = c.loop-done in
    let e : (c.args.count - l._done) ≡ 0 = omega arith in
    sym (rw e at l.invariant.1 ∙ read_all l.value _)
