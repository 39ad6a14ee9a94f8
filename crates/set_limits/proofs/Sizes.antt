-- What the proofs about limits share: a number against a limit either side of zero, and tests joined by "and".
use Rattle.std.proofs.Common.{◌≡◌, refl, ap, ◌∙◌, ℕ, Bool, true, false, ◌&&◌, ℤ}
use mir.Syntax.{w64}
use mir.Val.{SFits, to_z, of_z}
use mir.Facts.{to_z-of_z}
use Rattle.number_whole.specs.code.Sizes.{Under}
use Rattle.number_whole.proofs.laws.Bound.{under-lit}
use Rattle.set_params.specs.Limits.{within}

-- a test of a number as it is read is one of the number
pub tested : (k : ℕ) {b : Bool} {v : ℤ} → b ≡ within k (to_z w64 (of_z w64 v)) → SFits w64 v → b ≡ within k v
tested k e f = e ∙ ap (within k) (to_z-of_z f)

-- a test that passed is a bound
pub passed : (k : ℕ) (z : ℤ) → within k z ≡ true → Under z k
passed k z e = under-lit (rw e tt)

-- a first test passes and the next one decides, or it fails
pub then-both : {r a x b v : Bool} → r ≡ true → r ≡ a → x ≡ b → v ≡ x → v ≡ (a && b)
then-both e q f h = rw (← q, e) (h ∙ f)

pub else-both : {r a v : Bool} (b : Bool) → r ≡ false → r ≡ a → v ≡ r → v ≡ (a && b)
else-both b e q h = rw (← q, e) (h ∙ e)

-- four tests and five, however they are grouped, and the last two of three that pass
pub four-regrouped : (a b c d : Bool) → (((a && b) && c) && d) ≡ (a && (b && (c && d)))
four-regrouped true true true d = refl
four-regrouped true true false d = refl
four-regrouped true false c d = refl
four-regrouped false b c d = refl

pub regrouped : (a b c d e : Bool) → ((((a && b) && c) && d) && e) ≡ (a && (b && (c && (d && e))))
regrouped true b c d e = four-regrouped b c d e
regrouped false b c d e = refl

pub last-two : (a b c : Bool) → ((a && b) && c) ≡ true → (b ≡ true) × (c ≡ true)
last-two true true c h = (refl, h)
last-two true false c h = absurd cc
last-two false b c h = absurd cc
