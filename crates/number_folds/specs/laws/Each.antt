-- A fact about each element of a list.
use mathlib.Core.List.{List, [], ◌∷◌, map, Forall₂}
use Prim.Native.Nat.{ℕ, zero, suc, ◌+◌, ◌<◌}
use Rattle.std.proofs.Common.{arith}
use Rattle.std.specs.Prelude.{length, take, get_or}
use Rattle.number_whole.specs.Listed.{listed}

pub data Each {A : Type 0} (P : A → Type 0) : List A → Type 0 where
  none : Each P []
  also : {x : A} {xs : List A} → P x → Each P xs → Each P (x ∷ xs)

module _ {A : Type 0} {P : A → Type 0} where
  -- of the first n
  pub each_take : {xs : List A} (n : ℕ) → Each P xs → Each P (take n xs)
  each_take zero h = none
  each_take (suc n) none = none
  each_take (suc n) (also {x = x} {xs = xs} p h) = also p (each_take {xs = xs} n h)

  -- of the one at place i
  pub each_at : (d : A) {xs : List A} → Each P xs → (i : ℕ) → i < length xs → P (get_or xs i d)
  each_at d none i l = absurd (omega arith)
  each_at d (also p h) zero l = p
  each_at d (also p h) (suc i) l = each_at d h i (omega arith)

  -- of each of a rule's values
  pub each-listed : (f : ℕ → A) (i n : ℕ) → ((k : ℕ) → k < i + n → P (f k)) → Each P (listed f i n)
  unfolding listed
  each-listed f i zero h = none
  each-listed f i (suc n) h = also (h i (omega arith)) (each-listed f (suc i) n (λ k l. h k (omega arith)))

-- from two facts
pub each-with : {A : Type 0} {P Q R : A → Type 0} {xs : List A} → Each P xs → Each Q xs
    → ((x : A) → P x → Q x → R x) → Each R xs
each-with none none r = none
each-with (also {x} p h) (also q k) r = also (r x p q) (each-with h k r)

-- of a function of each element, and of two functions place by place
pub each_map : {A B : Type 0} {P : A → Type 0} {Q : B → Type 0} (f : A → B) → ((x : A) → P x → Q (f x))
    → {xs : List A} → Each P xs → Each Q (map f xs)
each_map f r none = none
each_map f r (also {x} p h) = also (r x p) (each_map f r h)

pub each-places : {A B C : Type 0} {P : A → Type 0} {R : B → C → Type 0} (f : A → B) (g : A → C)
    → ((x : A) → P x → R (f x) (g x)) → {xs : List A} → Each P xs → Forall₂ R (map f xs) (map g xs)
each-places f g r none = Forall₂.nil
each-places f g r (also {x} p h) = Forall₂.cons (r x p) (each-places f g r h)
