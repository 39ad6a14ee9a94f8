-- The digits of a list that is cut in two, and their number.
use Rattle.std.specs.Prelude.{◌≡◌, ℕ, zero, suc, ◌+◌, ◌-◌, ◌*◌, ◌^◌, ◌≤◌, ◌<◌, Bool, take}
use Rattle.std.proofs.Math.Path.{refl, ap}
use Rattle.std.proofs.Common.{◌∙◌, pow-suc, arith}
use Rattle.std.proofs.Math.Bool.{true, false}
use mathlib.Core.List.{List, [], ◌∷◌, ◌++◌}
use Rattle.std.proofs.Math.ListN.{length}
use Rattle.text_tokens.specs.Number.{zero_digit, is_digit, digits, value_from, value}
use Rattle.text_tokens.specs.laws.DigitLaws.{digits_more, digits-end}

-- ---- the digits

-- the digits are the first bytes
pub digits-front : (bs : List ℕ) → digits bs ≡ take (length (digits bs)) bs
unfolding digits
digits-front [] = refl
digits-front (b ∷ bs) = go (digits-front bs) (is_digit b) refl
  where
    go : digits bs ≡ take (length (digits bs)) bs → (x : Bool) → is_digit b ≡ x
        → digits (b ∷ bs) ≡ take (length (digits (b ∷ bs))) (b ∷ bs)
    go ih true e = rw (digits_more b bs e) (ap (λ (l : List ℕ). b ∷ l) ih)
    go ih false e = rw (digits-end b bs e)

-- those among the first k bytes
pub digits-take : (k : ℕ) (bs : List ℕ) → take k (digits bs) ≡ digits (take k bs)
unfolding digits
digits-take zero bs = refl
digits-take (suc k) [] = refl
digits-take (suc k) (b ∷ bs) = go (digits-take k bs) (is_digit b) refl
  where
    go : take k (digits bs) ≡ digits (take k bs) → (x : Bool) → is_digit b ≡ x
        → take (suc k) (digits (b ∷ bs)) ≡ digits (b ∷ take k bs)
    go ih true e = rw (digits_more b bs e, digits_more b (take k bs) e) (ap (λ (l : List ℕ). b ∷ l) ih)
    go ih false e = rw (digits-end b bs e, digits-end b (take k bs) e)

module _ (cs : List ℕ) where
  -- they stop within the first part, or go on in the second
  pub digits-stop : (bs : List ℕ) → length (digits bs) < length bs → digits (bs ++ cs) ≡ digits bs
  unfolding digits
  digits-stop [] h = absurd (omega arith)
  digits-stop (b ∷ bs) h = go (digits-stop bs) (is_digit b) refl
    where
      go : (length (digits bs) < length bs → digits (bs ++ cs) ≡ digits bs) → (x : Bool) → is_digit b ≡ x
          → digits (b ∷ (bs ++ cs)) ≡ digits (b ∷ bs)
      go ih true e =
          rw (digits_more b bs e, digits_more b (bs ++ cs) e)
          (ap (λ (l : List ℕ). b ∷ l) (ih (omega (arith, ap length (digits_more b bs e)))))
      go ih false e = rw (digits-end b bs e, digits-end b (bs ++ cs) e)

  pub digits-on : (bs : List ℕ) → length bs ≤ length (digits bs) → digits (bs ++ cs) ≡ bs ++ digits cs
  unfolding digits
  digits-on [] h = refl
  digits-on (b ∷ bs) h = go (digits-on bs) (is_digit b) refl
    where
      go : (length bs ≤ length (digits bs) → digits (bs ++ cs) ≡ bs ++ digits cs) → (x : Bool) → is_digit b ≡ x
          → digits (b ∷ (bs ++ cs)) ≡ b ∷ (bs ++ digits cs)
      go ih true e =
          rw (digits_more b (bs ++ cs) e)
          (ap (λ (l : List ℕ). b ∷ l) (ih (omega (arith, ap length (digits_more b bs e)))))
      go ih false e = absurd (omega (arith, ap length (digits-end b bs e)))

  -- where both parts are digits, so is the second
  pub digits-second : (bs : List ℕ) → length (bs ++ cs) ≤ length (digits (bs ++ cs)) → length cs ≤ length (digits cs)
  unfolding digits
  digits-second [] h = h
  digits-second (b ∷ bs) h = go (digits-second bs) (is_digit b) refl
    where
      go : (length (bs ++ cs) ≤ length (digits (bs ++ cs)) → length cs ≤ length (digits cs)) → (x : Bool)
          → is_digit b ≡ x → length cs ≤ length (digits cs)
      go ih true e = ih (omega (arith, ap length (digits_more b (bs ++ cs) e)))
      go ih false e = absurd (omega (arith, ap length (digits-end b (bs ++ cs) e)))

-- ---- their number

-- one part after the other
pub value_on : (n : ℕ) (bs cs : List ℕ) → value_from n (bs ++ cs) ≡ value_from (value_from n bs) cs
unfolding value_from
value_on n [] cs = refl
value_on n (b ∷ bs) cs = value_on (n * 10 + (b - zero_digit)) bs cs

shift_one : (n d p v w r : ℕ) → r ≡ (n * 10 + d) * p + v → w ≡ d * p + v → r ≡ n * (p * 10) + w
shift_one n d p v w r e f = omega arith

-- after those of n
value_after : (n : ℕ) (bs : List ℕ) → value_from n bs ≡ n * 10 ^ length bs + value bs
unfolding value_from
value_after n [] = omega arith
value_after n (b ∷ bs) =
    rw (pow-suc 10 (length bs))
    (shift_one n (b - zero_digit) (10 ^ length bs) (value bs) (value_from (0 * 10 + (b - zero_digit)) bs) _
    (value_after (n * 10 + (b - zero_digit)) bs) (omega (arith, value_after (0 * 10 + (b - zero_digit)) bs)))

-- the number of two parts
pub value-parts : (bs cs : List ℕ) → value (bs ++ cs) ≡ value bs * 10 ^ length cs + value cs
value-parts bs cs = value_on 0 bs cs ∙ value_after (value bs) cs
