-- `number_len` meets its contract: it gives the number of digits, and one more below 0.
use mathlib.Core.Path.{◌≡◌, ap, ◌∙◌}
use Prim.Native.Nat.{ℕ}
use native.Mathlib.Omega.{arith}
use lib.IntN.{ℤ, nat_abs}
use lib.ListN.{length}
use mir.Facts.{to_z-of_z}
use Rattle.number_whole.proofs.Rounding.{sealed, less-true, less-false}
use Rattle.text_tokens.specs.Number.{unsigned_text}
use Rattle.text_printing.specs.laws.NumberLengths.{text-negative, text-natural, unsigned-length}
use Rattle.text_printing.proofs.number_len.Goals as goal

-- the number of the digits
count : (v : ℤ) {m n : ℕ} → m ≡ nat_abs v → n ≡ length (unsigned_text m) → n ≡ length (unsigned_text (nat_abs v))
count v e f = f ∙ ap (λ (n : ℕ). length (unsigned_text n)) e

pub overflow_add-result : goal.overflow_add-result
overflow_add-result c =
    omega (arith, count c.args.v (c.magnitude.ensures ∙ ap nat_abs (to_z-of_z c.ranges.v)) c.digit_count-count.ensures, unsigned-length (nat_abs c.args.v))

pub returns-then-v-lt0 : goal.returns-then-v-lt0
returns-then-v-lt0 c =
    let v = to_z-of_z c.ranges.v in
    let h = less-true (simp (v, sealed) at c.if-v-lt0.true) in
    omega (arith, count c.args.v (c.magnitude.ensures ∙ ap nat_abs (to_z-of_z c.ranges.v)) c.digit_count-count.ensures, ap length (text-negative h))

pub returns : goal.returns
returns c =
    let v = to_z-of_z c.ranges.v in
    let h = less-false (simp (v, sealed) at c.if-v-lt0.false) in
    omega (arith, count c.args.v (c.magnitude.ensures ∙ ap nat_abs (to_z-of_z c.ranges.v)) c.digit_count-count.ensures, ap length (text-natural h))
