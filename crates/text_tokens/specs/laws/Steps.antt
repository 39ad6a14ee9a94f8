-- One reading after another goes on with what the first takes, and stops where the first is malformed.
use Rattle.std.specs.Prelude.{◌≡◌, ℕ, List}
use Rattle.std.proofs.Common.{ap}
use Rattle.text_tokens.specs.Text.{Parse, malformed, taken, and_then}

module _ {A B : Type 0} where
  pub goes : {q : Parse A} {a : A} {rest : List ℕ} (f : A → List ℕ → Parse B) → q ≡ taken a rest
      → and_then q f ≡ f a rest
  goes f e = ap (λ (p : Parse A). and_then p f) e

  pub stops : {q : Parse A} (f : A → List ℕ → Parse B) → q ≡ malformed → and_then q f ≡ malformed
  stops f e = ap (λ (p : Parse A). and_then p f) e
