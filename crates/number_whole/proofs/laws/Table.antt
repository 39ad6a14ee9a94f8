-- A rule of a table, proved at all of its entries by one test that is computed over the whole table; and laws of the list of
-- a rule's values.
use Rattle.std.specs.Prelude.{◌≡◌, Bool, true, false, T, length, get_or, take, drop}
use Rattle.std.proofs.Math.Path.{refl, ap, sym}
use Rattle.std.proofs.Common.{subst, ◌∙◌, add-zero, zero-add, add-suc, suc-add, le_of_suc-le-suc, not-suc-le-zero, arith}
use mathlib.Core.List.{List, [], ◌∷◌, ◌++◌, map}
use Prim.Native.Nat.{ℕ, zero, suc, ◌+◌, ◌≤◌, ◌<◌}
use Rattle.number_whole.specs.Listed.{listed}

abbrev pub both : Bool → Bool → Bool
both true b = b
both false b = false

-- the test passes at each entry of the list and its place, counted from i
abbrev pub every : {A : Type 0} → (ℕ → A → Bool) → ℕ → List A → Bool
every test i [] = true
every test i (x ∷ xs) = both (test i x) (every test (suc i) xs)

both_left : (a b : Bool) → T (both a b) → T a
both_left true b t = tt
both_left false b t = t

both_right : (a b : Bool) → T (both a b) → T b
both_right true b t = t
both_right false b t = absurd t

module _ {A : Type 0} (test : ℕ → A → Bool) (d : A) where
  from : (xs : List A) (i : ℕ) → T (every test i xs) → (k : ℕ) → k < length xs → T (test (i + k) (get_or xs k d))
  from [] i t k h = absurd (not-suc-le-zero h)
  from (x ∷ xs) i t zero h =
      subst (λ (m : ℕ). T (test m x)) (sym (add-zero i)) (both_left (test i x) (every test (suc i) xs) t)
  from (x ∷ xs) i t (suc k) h =
      subst (λ (m : ℕ). T (test m (get_or xs k d))) (suc-add i k ∙ sym (add-suc i k))
      (from xs (suc i) (both_right (test i x) (every test (suc i) xs) t) k (le_of_suc-le-suc h))

  -- the test holds of the k-th entry
  pub at : (xs : List A) → T (every test 0 xs) → (k : ℕ) → k < length xs → T (test k (get_or xs k d))
  at xs t k h = subst (λ (m : ℕ). T (test m (get_or xs k d))) (zero-add k) (from xs 0 t k h)

module _ {A : Type 0} (f : ℕ → A) where
  pub listed-length : (i n : ℕ) → length (listed f i n) ≡ n
  unfolding listed
  listed-length i zero = refl
  listed-length i (suc n) = ap suc (listed-length (suc i) n)

  pub listed_at : (d : A) (i n k : ℕ) → k < n → get_or (listed f i n) k d ≡ f (i + k)
  unfolding listed
  listed_at d i zero k h = absurd (not-suc-le-zero h)
  listed_at d i (suc n) zero h = ap f (sym (add-zero i))
  listed_at d i (suc n) (suc k) h =
      listed_at d (suc i) n k (le_of_suc-le-suc h) ∙ ap f (suc-add i k ∙ sym (add-suc i k))

  -- one more is put at the end
  pub listed_more : (i n : ℕ) → listed f i (suc n) ≡ listed f i n ++ (f (i + n) ∷ [])
  unfolding listed
  listed_more i zero = ap (λ (k : ℕ). f k ∷ []) (sym (add-zero i))
  listed_more i (suc n) =
      ap (λ (l : List A). f i ∷ l)
      (listed_more (suc i) n ∙ ap (λ (k : ℕ). listed f (suc i) n ++ (f k ∷ [])) (suc-add i n ∙ sym (add-suc i n)))

  -- the rule counted from x
  pub listed-shift : (x i n : ℕ) → listed (λ (k : ℕ). f (x + k)) i n ≡ listed f (x + i) n
  unfolding listed
  listed-shift x i zero = refl
  listed-shift x i (suc n) =
      ap (λ (l : List A). f (x + i) ∷ l) (listed-shift x (suc i) n ∙ ap (λ (k : ℕ). listed f k n) (add-suc x i))

  -- the first k of n
  listed-take : (i n k : ℕ) → k ≤ n → take k (listed f i n) ≡ listed f i k
  unfolding listed
  listed-take i n zero h = refl
  listed-take i zero (suc k) h = absurd (not-suc-le-zero h)
  listed-take i (suc n) (suc k) h = ap (λ (l : List A). f i ∷ l) (listed-take (suc i) n k (le_of_suc-le-suc h))

  -- k of n after the first x
  pub listed-part : (i n x k : ℕ) → x + k ≤ n → take k (drop x (listed f i n)) ≡ listed f (i + x) k
  unfolding listed
  listed-part i n zero k h = listed-take i n k (omega arith) ∙ ap (λ (j : ℕ). listed f j k) (sym (add-zero i))
  listed-part i zero (suc x) k h = absurd (omega arith)
  listed-part i (suc n) (suc x) k h =
      listed-part (suc i) n x k (omega arith) ∙ ap (λ (j : ℕ). listed f j k) (suc-add i x ∙ sym (add-suc i x))

-- a function of each value
pub listed-map : {A B : Type 0} (h : A → B) (f : ℕ → A) (i n : ℕ) → map h (listed f i n) ≡ listed (λ (k : ℕ). h (f k)) i n
unfolding listed
listed-map h f i zero = refl
listed-map {B = B} h f i (suc n) = ap (λ (l : List B). h (f i) ∷ l) (listed-map h f (suc i) n)
