-- The tests of the order of ℤ: a number below another is not at least it, and one that is not below it is.
use Rattle.std.specs.Prelude.{◌≡◌, refl, Bool, true, false, ℤ, ◌<ℤ◌}
use Rattle.std.specs.Float.Ieee.Bits.{is_true}
use Rattle.std.specs.Int.Signed.{le_z, lt_z, lt_z_yes, lt_z_no, clash_ℤ}

not_least : (b : Bool) {v low : ℤ} → v <ℤ low → le_z low v ≡ b → b ≡ false
not_least true {v} {low} h q = absurd (clash_ℤ {a = v} {b = low} h (record { le = rw q tt }))
not_least false h q = refl

pub below-not-least : (v low : ℤ) → lt_z v low ≡ true → le_z low v ≡ false
below-not-least v low e = not_least (le_z low v) {v = v} {low = low} (lt_z_yes (rw e tt)) refl

pub not-below-least : (v low : ℤ) → lt_z v low ≡ false → le_z low v ≡ true
not-below-least v low e = is_true (le_z low v) (lt_z_no {a = v} {b = low} (rw e tt)).le
