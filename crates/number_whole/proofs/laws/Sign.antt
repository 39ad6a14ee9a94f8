-- The sign of a number by the code's test, z < 0: a number that passes it is −(n + 1), any other is n.
use Rattle.std.specs.Prelude.{◌≡◌, refl, Bool, true, false, ℕ, ◌<◌, ℤ, pos, negsuc, nat_abs}
use Rattle.std.proofs.Common.{sym, ◌∙◌, true≢false, arith}
use Rattle.std.proofs.lemmas.Bool.{false≢true}
use Rattle.std.proofs.Math.Dec.{leb-suc-zero}
use Rattle.std.specs.Int.Signed.{lt_z}
use Rattle.number_whole.specs.Parts.{below}

pub data Sign : ℤ → Bool → Type 0 where
  minus : (n : ℕ) → Sign (negsuc n) true
  plain : (n : ℕ) → Sign (pos n) false

pub sign : (z : ℤ) {b : Bool} → lt_z z (pos 0) ≡ b → Sign z b
sign (pos n) {b = true} e = absurd (false≢true (sym (leb-suc-zero n) ∙ e))
sign (pos n) {b = false} e = plain n
sign (negsuc n) {b = true} e = minus n
sign (negsuc n) {b = false} e = absurd (true≢false e)

-- a number with a part below zero is negative, and that part is its distance from zero
pub below-sign : (z : ℤ) → 0 < below z → Sign z true
below-sign (pos n) h = absurd (omega arith)
below-sign (negsuc n) h = minus n

pub below-size : {z : ℤ} → Sign z true → nat_abs z ≡ below z
below-size (minus n) = refl
