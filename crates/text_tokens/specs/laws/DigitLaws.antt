-- The digits at the front of a list of bytes, what follows them, and the number that they stand for.
use Rattle.std.specs.Prelude.{◌≡◌, refl, ℕ, suc, ◌+◌, ◌-◌, ◌*◌, ◌^◌, ◌≤◌, ◌<◌, Bool, true, false, ◌&&◌, List, [], ◌∷◌, ◌++◌, leb, length, get_or, drop}
use Rattle.std.proofs.Common.{sym, ap, ◌∙◌, pow-suc, mul-le-mul_right, lt_of_lt_of_le, arith, le-leb, leb-true, eq-eqb, ne_eqb, length-append}
use Rattle.std.proofs.Math.Bool.{and-false}
use Rattle.std.proofs.lemmas.Bool.{false≢true, lt-leb}
use Rattle.std.proofs.Math.Seq.{drop-append_seam}
use Rattle.text_tokens.specs.Number.{zero_digit, most_digits, is_digit, digits, after_digits, value_from}
use Rattle.text_tokens.specs.Number.{no_leading_zero, well_formed}

-- ---- one byte

-- the digits are the bytes from `0` to `9`
pub digit-between : (b : ℕ) → zero_digit ≤ b → b ≤ zero_digit + 9 → is_digit b ≡ true
unfolding is_digit
digit-between b h k = rw (le-leb zero_digit b h, le-leb b (zero_digit + 9) k)

pub digit-below : (b : ℕ) → b < zero_digit → is_digit b ≡ false
unfolding is_digit
digit-below b h = rw (lt-leb zero_digit b h)

pub digit-above : (b : ℕ) → zero_digit + 9 < b → is_digit b ≡ false
unfolding is_digit
digit-above b h = rw (le-leb zero_digit b (omega arith), lt-leb b (zero_digit + 9) h)

both : (a b : Bool) → (a && b) ≡ true → (a ≡ true) × (b ≡ true)
both true b e = (refl, e)
both false b e = (e, cc)

pub digit-bounds : (b : ℕ) → is_digit b ≡ true → (zero_digit ≤ b) × (b ≤ zero_digit + 9)
unfolding is_digit
digit-bounds b e =
    let w = both (leb zero_digit b) (leb b (zero_digit + 9)) e in
    (leb-true zero_digit b w.0, leb-true b (zero_digit + 9) w.1)

pub digits_more : (b : ℕ) (bs : List ℕ) → is_digit b ≡ true → digits (b ∷ bs) ≡ b ∷ digits bs
unfolding digits
digits_more b bs e = rw (e, digits)

pub digits-end : (b : ℕ) (bs : List ℕ) → is_digit b ≡ false → digits (b ∷ bs) ≡ []
unfolding digits
digits-end b bs e = rw (e, digits)

pub after_more : (b : ℕ) (bs : List ℕ) → is_digit b ≡ true → after_digits (b ∷ bs) ≡ after_digits bs
unfolding after_digits
after_more b bs e = rw (e, after_digits)

pub after-end : (b : ℕ) (bs : List ℕ) → is_digit b ≡ false → after_digits (b ∷ bs) ≡ b ∷ bs
unfolding after_digits
after-end b bs e = rw (e, after_digits)

-- ---- the digits, and what follows them

-- the two make up the list
pub digits-split : (bs : List ℕ) → digits bs ++ after_digits bs ≡ bs
unfolding digits after_digits
digits-split [] = refl
digits-split (b ∷ bs) = go (digits-split bs) (is_digit b) refl
  where
    go : digits bs ++ after_digits bs ≡ bs → (x : Bool) → is_digit b ≡ x → digits (b ∷ bs) ++ after_digits (b ∷ bs) ≡ b ∷ bs
    go ih true e = rw (digits_more b bs e, after_more b bs e) (ap (◌∷◌ b) ih)
    go ih false e = rw (digits-end b bs e, after-end b bs e)

pub after-drop : (bs : List ℕ) → after_digits bs ≡ drop (length (digits bs)) bs
after-drop bs =
    sym (drop-append_seam (digits bs) (after_digits bs)) ∙ ap (drop (length (digits bs))) (digits-split bs)

pub digits-length : (bs : List ℕ) → length (digits bs) + length (after_digits bs) ≡ length bs
digits-length bs = sym (length-append (digits bs) (after_digits bs)) ∙ ap length (digits-split bs)

-- ---- the number

-- a digit x to the base p after those of n, and q numbers for each: no more than for n
pub digit-within : (n x p q : ℕ) → x < p → suc (n * p + x) * q ≤ suc n * (q * p)
digit-within n x p q h = omega (arith, mul-le-mul_right q h)

-- k digits after those of n stand for less than (n + 1)·10ᵏ
pub value-below : (n : ℕ) (bs : List ℕ) → value_from n (digits bs) < suc n * 10 ^ length (digits bs)
unfolding digits value_from
value-below n [] = omega arith
value-below n (b ∷ bs) = go (value-below (n * 10 + (b - zero_digit)) bs) (is_digit b) refl
  where
    go : value_from (n * 10 + (b - zero_digit)) (digits bs)
        < suc (n * 10 + (b - zero_digit)) * 10 ^ length (digits bs)
        → (x : Bool) → is_digit b ≡ x → value_from n (digits (b ∷ bs)) < suc n * 10 ^ length (digits (b ∷ bs))
    go ih true e =
        let w = digit-bounds b e in
        rw (digits_more b bs e, pow-suc 10 (length (digits bs)))
        (lt_of_lt_of_le ih (digit-within n (b - zero_digit) 10 (10 ^ length (digits bs)) (omega arith)))
    go ih false e = rw (digits-end b bs e) (omega arith)

-- ---- which digits are a number: 1 to 15, and the first is `0` only where it is alone

pub ill-none : (ds : List ℕ) → length ds ≡ 0 → well_formed ds ≡ false
unfolding well_formed no_leading_zero
ill-none [] e = refl
ill-none (d ∷ ds) e = absurd (omega arith)

pub ill-long : (ds : List ℕ) → most_digits < length ds → well_formed ds ≡ false
unfolding well_formed
ill-long ds h = rw (lt-leb (length ds) most_digits h) (and-false (no_leading_zero ds))

pub ill-zero : (ds : List ℕ) → 1 < length ds → get_or ds 0 0 ≡ zero_digit → well_formed ds ≡ false
unfolding well_formed no_leading_zero
ill-zero [] h e = absurd (omega arith)
ill-zero (d ∷ []) h e = absurd (omega arith)
ill-zero (d ∷ c ∷ ds) h e = rw (eq-eqb d zero_digit e)

pub well-one : (ds : List ℕ) → length ds ≡ 1 → well_formed ds ≡ true
unfolding well_formed no_leading_zero
well-one [] e = absurd (omega arith)
well-one (d ∷ []) e = refl
well-one (d ∷ c ∷ ds) e = absurd (omega arith)

pub well-more : (ds : List ℕ) → 1 < length ds → length ds ≤ most_digits → (get_or ds 0 0 ≡ zero_digit → ⊥)
    → well_formed ds ≡ true
unfolding well_formed no_leading_zero
well-more [] h k e = absurd (omega arith)
well-more (d ∷ []) h k e = absurd (omega arith)
well-more (d ∷ c ∷ ds) h k e = rw (ne_eqb d zero_digit e, le-leb (length (d ∷ c ∷ ds)) most_digits k)

pub well-bounds : (ds : List ℕ) → well_formed ds ≡ true → (0 < length ds) × (length ds ≤ most_digits)
unfolding well_formed no_leading_zero
well-bounds [] e = absurd (false≢true e)
well-bounds (d ∷ ds) e =
    let w = both (no_leading_zero (d ∷ ds)) (leb (length (d ∷ ds)) most_digits) e in
    (omega arith, leb-true (length (d ∷ ds)) most_digits w.1)
