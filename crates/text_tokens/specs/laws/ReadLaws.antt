-- What a test or a result of the code says was read.
use Rattle.std.specs.Prelude.{◌≡◌, ℕ, ◌^◌, ◌<◌, Bool, true, false, not, List, ℤ, drop, Option, Some, None}
use Rattle.std.proofs.Common.{sym, ap, ◌∙◌, to_z-of_z}
use Rattle.std.proofs.lemmas.Bool.{not-true, not-false}
use Rattle.std.specs.Int.Signed.{mag}
use Rattle.std.specs.Int.{w64}
use mir.Val.{hbits, of_z, to_z}
use Rattle.text_tokens.specs.Text.{Parse, malformed, taken}
use Rattle.text_tokens.specs.code.Places.{number_read}

-- a test `!found` that held, and one that failed
pub lacks : {r b : Bool} → r ≡ b → not r ≡ true → b ≡ false
lacks {r} e h = sym e ∙ not-true r h

pub has : {r b : Bool} → r ≡ b → not r ≡ false → b ≡ true
has {r} e h = sym e ∙ not-false r h

-- the bits of a number that fits stand for it
pub held : (z : ℤ) → mag z < 2 ^ hbits w64 → to_z w64 (of_z w64 z) ≡ z
held z h = to_z-of_z {w = w64} (record { sfits = h })

-- a number that was malformed, and one that was read
module _ (bytes : List ℕ) where
  pub read-malformed : {r : Option (ℤ × ℕ)} {q : Parse ℤ} → number_read bytes r ≡ q → r ≡ None → q ≡ malformed
  read-malformed e f = sym e ∙ ap (number_read bytes) f

  pub read_taken : {r : Option (ℤ × ℕ)} {q : Parse ℤ} {v : ℤ} {next : ℕ} → number_read bytes r ≡ q → r ≡ Some (v, next)
      → q ≡ taken v (drop next bytes)
  read_taken e f = sym e ∙ ap (number_read bytes) f
