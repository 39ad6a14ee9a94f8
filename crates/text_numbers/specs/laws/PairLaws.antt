-- Digits to a base: neighbours joined are half as many digits to the base squared, and stand for the same number.
use Rattle.std.specs.Prelude.{◌≡◌, refl, ℕ, zero, suc, ◌+◌, ◌*◌, ◌^◌, ◌≤◌, ◌<◌, List, [], ◌∷◌, length}
use Rattle.std.proofs.Common.{ap, ◌∙◌, pow-suc, lt_of_lt_of_le, arith}
use Rattle.std.proofs.Math.Nat.{pow-zero}
use Rattle.std.proofs.Math.Arith.{digits_lt}
use Rattle.text_words.specs.code.Word.{Below, none, more}
use Rattle.text_tokens.specs.laws.DigitLaws.{digit-within}
use Rattle.text_numbers.specs.code.Parts.{numeral, pairs}

pub below_more : {b c : ℕ} {xs : List ℕ} → b ≤ c → Below b xs → Below c xs
below_more h none = none
below_more h (more l r) = more (lt_of_lt_of_le l h) (below_more h r)

-- ---- neighbours joined

pub pairs-length : (p n : ℕ) (xs : List ℕ) → length xs ≡ n + n → length (pairs p xs) ≡ n
unfolding pairs
pairs-length p zero [] e = refl
pairs-length p zero (x ∷ xs) e = absurd (omega arith)
pairs-length p (suc n) [] e = absurd (omega arith)
pairs-length p (suc n) (x ∷ []) e = absurd (omega arith)
pairs-length p (suc n) (x ∷ y ∷ xs) e = ap suc (pairs-length p n xs (omega arith))

pub pairs_below : {p : ℕ} {xs : List ℕ} → Below p xs → Below (p * p) (pairs p xs)
unfolding pairs
pairs_below none = none
pairs_below (more l none) = none
pairs_below (more l (more m h)) = more (digits_lt l m) (pairs_below h)

pub two-places : (n p x y : ℕ) → (n * p + x) * p + y ≡ n * (p * p) + (x * p + y)
two-places n p x y = omega arith

pub pairs-numeral : (p m n : ℕ) (xs : List ℕ) → length xs ≡ n + n → numeral p m xs ≡ numeral (p * p) m (pairs p xs)
unfolding pairs numeral
pairs-numeral p m zero [] e = refl
pairs-numeral p m zero (x ∷ xs) e = absurd (omega arith)
pairs-numeral p m (suc n) [] e = absurd (omega arith)
pairs-numeral p m (suc n) (x ∷ []) e = absurd (omega arith)
pairs-numeral p m (suc n) (x ∷ y ∷ xs) e =
    pairs-numeral p ((m * p + x) * p + y) n xs (omega arith)
    ∙ ap (λ (a : ℕ). numeral (p * p) a (pairs p xs)) (two-places m p x y)

-- ---- the number

-- k digits after those of n stand for less than (n + 1)·pᵏ
pub numeral-below : (p n : ℕ) {xs : List ℕ} → Below p xs → numeral p n xs < suc n * p ^ length xs
unfolding numeral
numeral-below p n none = rw (pow-zero p) (omega arith)
numeral-below p n (more {x} {xs} l h) =
    rw (pow-suc p (length xs)) (lt_of_lt_of_le (numeral-below p (n * p + x) h) (digit-within n x p (p ^ length xs) l))
