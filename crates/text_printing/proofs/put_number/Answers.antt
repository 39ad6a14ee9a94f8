-- `put_number` meets its contract: below 0 it writes the minus sign and the digits behind it, else the digits alone.
use mathlib.Core.Path.{◌≡◌, sym, ap, ◌∙◌}
use mathlib.Core.List.{◌∷◌}
use Prim.Native.Nat.{ℕ}
use native.Mathlib.Omega.{arith}
use Rattle.std.specs.Prelude.{ℤ, pos, nat_abs, true, false}
use Rattle.std.proofs.Common.{FitsSigned, to_z, of_z, w64}
use lib.Signed.{lt_z}
use mir.Facts.{to_z-of_z}
use Rattle.number_whole.proofs.Rounding.{sealed, less-true, less-false}
use lib.ListN.{length, length-set}
use Rattle.text_tokens.specs.Number.{minus_sign, unsigned_text, number_text}
use Rattle.text_printing.specs.laws.NumberLengths.{text-negative, text-natural}
use Rattle.text_printing.specs.laws.OverwrittenLaws.{overwritten-behind}
use Rattle.text_printing.proofs.put_number.Goals as goal

-- v's text by its distance from 0
negative : {v : ℤ} {m : ℕ} → FitsSigned w64 v → m ≡ nat_abs (to_z w64 (of_z w64 v)) → lt_z (to_z w64 (of_z w64 v)) (pos 0) ≡ true
    → number_text v ≡ minus_sign ∷ unsigned_text m
negative f e h =
    let v = to_z-of_z f in
    let k = less-true (simp (v, sealed) at h) in
    text-negative k ∙ ap (λ (n : ℕ). minus_sign ∷ unsigned_text n) (sym (e ∙ ap nat_abs v))

natural : {v : ℤ} {m : ℕ} → FitsSigned w64 v → m ≡ nat_abs (to_z w64 (of_z w64 v)) → lt_z (to_z w64 (of_z w64 v)) (pos 0) ≡ false
    → number_text v ≡ unsigned_text m
natural f e h =
    let v = to_z-of_z f in
    let k = less-false (simp (v, sealed) at h) in
    text-natural k ∙ ap unsigned_text (sym (e ∙ ap nat_abs v))

pub bounds-buffer-at : goal.bounds-buffer-at
bounds-buffer-at c = omega (arith, ap length (negative c.ranges.v c.magnitude-n.ensures c.if-v-lt0.true))

pub put_digits-requires : goal.put_digits-requires
put_digits-requires c =
    simp length-set (omega (arith, c.magnitude-n.ensures ∙ ap nat_abs (to_z-of_z c.ranges.v), ap length (negative c.ranges.v c.magnitude-n.ensures c.if-v-lt0.true)))

pub shape_of-buffer-then-v-lt0 : goal.shape_of-buffer-then-v-lt0
shape_of-buffer-then-v-lt0 c = c.put_digits.auto.buffer ∙ simp length-set

pub returns-then-v-lt0 : goal.returns-then-v-lt0
returns-then-v-lt0 c =
    let e = c.put_digits.ensures in
    let t = unsigned_text c.magnitude-n.result in
    let b = overwritten-behind c.args.buffer.now c.args.at minus_sign t (omega (arith, ap length (negative c.ranges.v c.magnitude-n.ensures c.if-v-lt0.true))) in
    (omega (arith, ap length (negative c.ranges.v c.magnitude-n.ensures c.if-v-lt0.true)), rw (negative c.ranges.v c.magnitude-n.ensures c.if-v-lt0.true) (e.1 ∙ b))

pub put_digits-requires-2 : goal.put_digits-requires-2
put_digits-requires-2 c = omega (arith, c.magnitude-n.ensures ∙ ap nat_abs (to_z-of_z c.ranges.v), ap length (natural c.ranges.v c.magnitude-n.ensures c.if-v-lt0.false))

pub returns : goal.returns
returns c =
    let e = c.put_digits-2.ensures in
    (omega (arith, ap length (natural c.ranges.v c.magnitude-n.ensures c.if-v-lt0.false)), rw (natural c.ranges.v c.magnitude-n.ensures c.if-v-lt0.false) e.1)
