-- Two lists related place by place, for sums that are compared place by place.
use Rattle.std.specs.Prelude.{◌≡◌, refl, ℕ, zero, suc, ◌<◌, length, get_or, take}
use Rattle.std.proofs.Common.{ap, arith}
use mathlib.Core.List.{List, [], ◌∷◌, Forall₂}

-- from the lengths and every place
pub places : {A B : Type 0} {R : A → B → Type 0} (xs : List A) (ys : List B) (d : A) (e : B) → length xs ≡ length ys
    → ((i : ℕ) → i < length xs → R (get_or xs i d) (get_or ys i e)) → Forall₂ R xs ys
places [] [] d e h r = Forall₂.nil
places [] (y ∷ ys) d e h r = absurd (omega arith)
places (x ∷ xs) [] d e h r = absurd (omega arith)
places (x ∷ xs) (y ∷ ys) d e h r =
    Forall₂.cons (r zero (omega arith)) (places xs ys d e (omega arith) (λ i l. r (suc i) (omega arith)))

-- their lengths are equal, and their beginnings are related
pub places-length : {A B : Type 0} {R : A → B → Type 0} {xs : List A} {ys : List B} → Forall₂ R xs ys → length xs ≡ length ys
places-length Forall₂.nil = refl
places-length (Forall₂.cons r rs) = ap suc (places-length rs)

pub places-take : {A B : Type 0} {R : A → B → Type 0} {xs : List A} {ys : List B} (n : ℕ) → Forall₂ R xs ys
    → Forall₂ R (take n xs) (take n ys)
places-take zero rs = Forall₂.nil
places-take (suc n) Forall₂.nil = Forall₂.nil
places-take (suc n) (Forall₂.cons r rs) = Forall₂.cons r (places-take n rs)
