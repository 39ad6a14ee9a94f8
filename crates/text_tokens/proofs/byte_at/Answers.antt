-- `byte_at` meets its contract: past the end no byte stands.
use mathlib.Core.Path.{◌≡◌, sym, ap, ◌∙◌}
use mathlib.Core.List.{List, [], ◌∷◌}
use native.Mathlib.Nat.{le_refl}
use Prim.Native.Nat.{ℕ}
use native.Mathlib.Omega.{arith}
use denote.Bor.{Bor}
use lib.Dec.{eqb}
use Rattle.std.specs.Prelude.{Option, Some, None}
use Rattle.std.specs.Option.{option_eq}
use Rattle.std.specs.Slice.{IsItemAt}
use Rattle.text_tokens.specs.code.Places.{text_at}
use Rattle.text_tokens.proofs.TextSteps.{text-short, byte-there}
use Rattle.text_tokens.proofs.byte_at.Goals as goal

by_item : (bytes : List ℕ) (at : ℕ) (r : Option (Bor ℕ)) (byte : Bor ℕ) → IsItemAt bytes at r
    → option_eq (λ (x y : Bor ℕ). eqb x.now y.now) r (Some byte) ≡ text_at bytes at (byte.now ∷ [])
by_item bytes at None byte g = sym (text-short bytes at (byte.now ∷ []) (omega arith))
by_item bytes at (Some x) byte g =
    ap (λ (b : ℕ). eqb b byte.now) (g.4 (le_refl at) 0) ∙ byte-there bytes at byte.now g.3.0

pub returns : goal.returns
returns c = c.eq.ensures ∙ by_item _ _ c.get.result _ c.get.ensures.lookup
