-- A number as the papers write it: "an optional minus and 1 to 15 digits, with no leading zero except 0 alone; `-0` and
-- `007` are torn."
use Rattle.std.specs.Prelude.{ℕ, zero, suc, ◌+◌, ◌-◌, ◌*◌, ◌/◌, ◌%◌, Bool, true, false, not, cond, ◌&&◌, List, [], ◌∷◌, ◌++◌, eqb, leb, ltb, ℤ, pos, negsuc, length, take, drop}
use Rattle.text_tokens.specs.Text.{Parse, malformed, taken}

-- the bytes of `-` and `0`
abbrev pub minus_sign : ℕ
minus_sign = 45

abbrev pub zero_digit : ℕ
zero_digit = 48

-- most digits of a number
abbrev pub most_digits : ℕ
most_digits = 15

unfoldable pub is_digit : ℕ → Bool
is_digit b = leb zero_digit b && leb b (zero_digit + 9)

-- the digits at the front, and what follows them
unfoldable pub digits : List ℕ → List ℕ
digits [] = []
digits (b ∷ bs) = elim (is_digit b) [ true ↦ b ∷ digits bs | false ↦ [] ]

unfoldable pub after_digits : List ℕ → List ℕ
after_digits [] = []
after_digits (b ∷ bs) = elim (is_digit b) [ true ↦ after_digits bs | false ↦ b ∷ bs ]

-- the number that digits stand for, after those of n
unfoldable pub value_from : ℕ → List ℕ → ℕ
value_from n [] = n
value_from n (d ∷ ds) = value_from (n * 10 + (d - zero_digit)) ds

abbrev pub value : List ℕ → ℕ
value ds = value_from 0 ds

-- at least one digit, and no leading zero except 0 alone
unfoldable pub no_leading_zero : List ℕ → Bool
no_leading_zero [] = false
no_leading_zero (d ∷ []) = true
no_leading_zero (d ∷ e ∷ ds) = not (eqb d zero_digit)

unfoldable pub well_formed : List ℕ → Bool
well_formed ds = no_leading_zero ds && leb (length ds) most_digits

-- a number without its sign, and a number
unfoldable pub read_unsigned : List ℕ → Parse ℕ
read_unsigned bs = cond (well_formed (digits bs)) (taken (value (digits bs)) (after_digits bs)) malformed

-- −v, where v is not 0
unfoldable pub negated : Parse ℕ → Parse ℤ
negated malformed = malformed
negated (taken zero bs) = malformed
negated (taken (suc v) bs) = taken (negsuc v) bs

unfoldable pub positive : Parse ℕ → Parse ℤ
positive malformed = malformed
positive (taken v bs) = taken (pos v) bs

unfoldable pub read_number : List ℕ → Parse ℤ
read_number [] = malformed
read_number (b ∷ bs) = elim (eqb b minus_sign) [ true ↦ negated (read_unsigned bs) | false ↦ positive (read_unsigned (b ∷ bs)) ]

-- ---- a number's text

-- the decimal digits of n, at most so many
unfoldable pub decimal : ℕ → ℕ → List ℕ
decimal zero n = []
decimal (suc m) n =
    elim (ltb n 10) [ true ↦ (zero_digit + n) ∷ [] | false ↦ decimal m (n / 10) ++ ((zero_digit + n % 10) ∷ []) ]

unfoldable pub unsigned_text : ℕ → List ℕ
unsigned_text n = decimal most_digits n

unfoldable pub number_text : ℤ → List ℕ
number_text (pos n) = unsigned_text n
number_text (negsuc n) = minus_sign ∷ unsigned_text (suc n)

-- at most k digits at the front
unfoldable pub leading : ℕ → List ℕ → List ℕ
leading k bs = take k (digits bs)

-- the number that n digits at the front stand for, after those of v; a digit more is not read
unfoldable pub read_digits : ℕ → ℕ → List ℕ → Parse ℕ
read_digits v n bs = cond (eqb (length (leading n bs)) n) (taken (value_from v (leading n bs)) (drop n bs)) malformed
