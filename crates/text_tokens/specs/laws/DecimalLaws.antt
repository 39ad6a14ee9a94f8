-- The decimal digits of a number: the digits of the tenth and one more, and how many there are.
use Rattle.std.specs.Prelude.{◌≡◌, refl, ℕ, zero, suc, ◌+◌, ◌/◌, ◌%◌, ◌≤◌, ◌<◌, Bool, true, false, [], ◌∷◌, ◌++◌, ltb, ℤ, pos, negsuc, length}
use Rattle.std.proofs.Common.{arith, lt-ltb, le-ltb, ltb-true, ltb-false, length-append}
use Rattle.text_tokens.specs.Number.{zero_digit, most_digits, decimal, unsigned_text, number_text}

-- ---- digit by digit

-- one digit
pub decimal-last : (m n : ℕ) → n < 10 → decimal (suc m) n ≡ (zero_digit + n) ∷ []
unfolding decimal
decimal-last m n h = rw (lt-ltb n 10 h, decimal)

-- the digits of the tenth, and the last digit
pub decimal-more : (m n : ℕ) → 10 ≤ n → decimal (suc m) n ≡ decimal m (n / 10) ++ ((zero_digit + n % 10) ∷ [])
unfolding decimal
decimal-more m n h = rw (le-ltb n 10 h, decimal)

-- which of the two
pub by_size : {P : Type 0} (n : ℕ) → (n < 10 → P) → (10 ≤ n → P) → P
by_size {P} n f g = go (ltb n 10) refl
  where
    go : (c : Bool) → ltb n 10 ≡ c → P
    go true e = f (ltb-true n 10 e)
    go false e = g (ltb-false n 10 e)

pub text-small : (n : ℕ) → n < 10 → unsigned_text n ≡ (zero_digit + n) ∷ []
unfolding unsigned_text
text-small n h = decimal-last 14 n h

pub text-two : (n : ℕ) → 10 ≤ n → n < 100 → unsigned_text n ≡ (zero_digit + n / 10) ∷ (zero_digit + n % 10) ∷ []
unfolding unsigned_text
text-two n h k = rw (decimal-more 14 n h, decimal-last 13 (n / 10) (omega arith))

-- ---- lengths

decimal-most : (m n : ℕ) → length (decimal m n) ≤ m
unfolding decimal
decimal-most zero n = omega arith
decimal-most (suc m) n = by_size n
    (λ h. rw (decimal-last m n h) (omega arith))
    (λ h. rw (decimal-more m n h, length-append) (omega (arith, decimal-most m (n / 10))))

decimal-least : (m n : ℕ) → 1 ≤ length (decimal (suc m) n)
decimal-least m n = by_size n
    (λ h. rw (decimal-last m n h) (omega arith))
    (λ h. rw (decimal-more m n h, length-append) (omega arith))

-- 1 to 15 digits
pub unsigned-length : (n : ℕ) → (1 ≤ length (unsigned_text n)) × (length (unsigned_text n) ≤ most_digits)
unfolding unsigned_text
unsigned-length n = (decimal-least 14 n, decimal-most 15 n)

-- and a sign
pub number-length : (v : ℤ) → (1 ≤ length (number_text v)) × (length (number_text v) ≤ suc most_digits)
unfolding number_text
number-length (pos n) = omega (arith, unsigned-length n)
number-length (negsuc n) = omega (arith, unsigned-length (suc n))
