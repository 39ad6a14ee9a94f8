-- A number and its text: reading the text gives the number, and only the number's own text reads as it.
use Rattle.std.specs.Prelude.{◌≡◌, refl, Bool, true, false, not, cond, List, [], ◌∷◌, ◌++◌, ℕ, zero, suc, ◌+◌, ◌-◌, ◌*◌, ◌/◌, ◌%◌, ◌^◌, ◌≤◌, ◌<◌, T, leb, eqb, ℤ, pos, negsuc, nat_abs, length}
use Rattle.std.proofs.Common.{ap, sym, ◌∙◌, append_assoc, append-nil, pow-suc, zero-lt-suc, div-add-mod', mod-lt, add-zero, add-suc, suc-add, arith, ne_eqb, eqb-true, le→leb}
use Rattle.std.proofs.lemmas.Bool.{eqb-false}
use Rattle.std.proofs.Math.Arith.{digits_div, digits_mod}
use Rattle.std.specs.Float.Ieee.Bits.{is_true, is_false}
use Rattle.std.specs.Float.Ieee.Fits.{and_i, and_l}
use Rattle.number_whole.proofs.laws.Clash.{clash}
use Rattle.text_tokens.specs.Text.{Parse, malformed, taken}
use Rattle.text_tokens.specs.Number.{zero_digit, minus_sign, is_digit, digits, after_digits, value_from, value}
use Rattle.text_tokens.specs.Number.{no_leading_zero, well_formed, read_unsigned, negated, positive, read_number}
use Rattle.text_tokens.specs.Number.{decimal, unsigned_text, number_text}
use Rattle.text_tokens.specs.laws.DigitLaws.{digit-between, digit-bounds, digits_more, digits-end, after_more, after-end}
use Rattle.text_tokens.specs.laws.DigitLaws.{digits-split, well-bounds}
use Rattle.text_tokens.specs.laws.DecimalLaws.{decimal-last, decimal-more, by_size, unsigned-length}
use Rattle.text_tokens.specs.laws.NumberLaws.{digits-taken}
use Rattle.text_tokens.specs.laws.RunLaws.{value_on}

-- the bytes do not begin with a digit
abbrev pub no_digit_first : List ℕ → Bool
no_digit_first [] = true
no_digit_first (b ∷ bs) = not (is_digit b)

-- each byte is a digit
abbrev pub AllDigits : List ℕ → Type 0
AllDigits [] = Unit
AllDigits (d ∷ ds) = (is_digit d ≡ true) × AllDigits ds

-- ---- digits at the front

digits-front : (ds rest : List ℕ) → AllDigits ds → T (no_digit_first rest)
    → (digits (ds ++ rest) ≡ ds) × (after_digits (ds ++ rest) ≡ rest)
unfolding digits after_digits
digits-front [] [] a n = (refl, refl)
digits-front [] (b ∷ bs) a n = let e = is_false (is_digit b) n in (digits-end b bs e, after-end b bs e)
digits-front (d ∷ ds) rest a n =
    let h = digits-front ds rest a.1 n in
    (rw (digits_more d (ds ++ rest) a.0, h.0), rw (after_more d (ds ++ rest) a.0, h.1))

-- what is read as digits, and what follows
record Front (ds rest : List ℕ) : Type 0 where
  all : AllDigits ds
  stops : T (no_digit_first rest)

front : (bs : List ℕ) → Front (digits bs) (after_digits bs)
unfolding digits after_digits
front [] = record { all = tt; stops = tt }
front (b ∷ bs) = go (is_digit b) refl (front bs)
  where
    go : (c : Bool) → is_digit b ≡ c → Front (digits bs) (after_digits bs)
        → Front (digits (b ∷ bs)) (after_digits (b ∷ bs))
    go true e f = rw (digits_more b bs e, after_more b bs e) (record { all = (e, f.all); stops = f.stops })
    go false e f = rw (digits-end b bs e, after-end b bs e) (record { all = tt; stops = rw e tt })

-- ---- decimal digits

pub all_append : (ds es : List ℕ) → AllDigits ds → AllDigits es → AllDigits (ds ++ es)
all_append [] es a b = b
all_append (d ∷ ds) es a b = (a.0, all_append ds es a.1 b)

decimal-all : (m n : ℕ) → AllDigits (decimal m n)
unfolding decimal
decimal-all zero n = tt
decimal-all (suc m) n = by_size n
    (λ h. rw (decimal-last m n h) (digit-between (48 + n) (omega arith) (omega arith), tt))
    (λ h. rw (decimal-more m n h)
    (all_append (decimal m (n / 10)) _ (decimal-all m (n / 10))
    (digit-between (48 + n % 10) (omega arith) (omega (arith, mod-lt n {m = 10} (zero-lt-suc 9))), tt)))

tenth : (m n : ℕ) → n < 10 ^ suc m → n / 10 < 10 ^ m
tenth m n h = let h' = rw (pow-suc 10 m) at h in omega arith

decimal-value : (m n : ℕ) → n < 10 ^ m → value_from 0 (decimal m n) ≡ n
unfolding decimal value_from
decimal-value zero n h = omega arith
decimal-value (suc m) n h = by_size n
    (λ k. rw (decimal-last m n k) (omega arith))
    (λ k. rw (decimal-more m n k, value_on, decimal-value m (n / 10) (tenth m n h))
    (omega (arith, div-add-mod' n 10)))

-- the first digit is not 0
abbrev first_not_zero : List ℕ → Bool
first_not_zero [] = false
first_not_zero (d ∷ ds) = not (eqb d zero_digit)

first-append : (ds es : List ℕ) → T (first_not_zero ds) → T (first_not_zero (ds ++ es))
first-append [] es t = absurd t
first-append (d ∷ ds) es t = t

first-no-leading : (ds : List ℕ) → T (first_not_zero ds) → T (no_leading_zero ds)
unfolding no_leading_zero
first-no-leading [] t = absurd t
first-no-leading (d ∷ []) t = tt
first-no-leading (d ∷ e ∷ ds) t = t

not-zero-digit : (n : ℕ) → 0 < n → T (not (eqb (48 + n) 48))
not-zero-digit n h = rw (ne_eqb (48 + n) 48 (omega arith)) tt

decimal-first : (m n : ℕ) → 0 < n → n < 10 ^ m → T (first_not_zero (decimal m n))
unfolding decimal
decimal-first zero n p h = absurd (omega arith)
decimal-first (suc m) n p h = by_size n
    (λ k. rw (decimal-last m n k) (not-zero-digit n p))
    (λ k. rw (decimal-more m n k)
    (first-append (decimal m (n / 10)) _ (decimal-first m (n / 10) (omega arith) (tenth m n h))))

decimal-no-leading : (m n : ℕ) → n < 10 ^ suc m → T (no_leading_zero (decimal (suc m) n))
unfolding no_leading_zero
decimal-no-leading m n h = by_size n
    (λ k. rw (decimal-last m n k) tt)
    (λ k. first-no-leading (decimal (suc m) n) (decimal-first (suc m) n (omega arith) h))

-- one digit after those of a number that is not 0, and several
decimal-push : (m n d : ℕ) → 0 < n → is_digit d ≡ true → decimal (suc m) (n * 10 + (d - zero_digit)) ≡ decimal m n ++ (d ∷ [])
decimal-push m n d p a =
    let r = digit-bounds d a in
    let h : d - 48 < 10 = omega arith in
    let e : 48 + (d - 48) ≡ d = omega arith in
    rw (decimal-more m (n * 10 + (d - 48)) (omega arith), digits_div n h, digits_mod n h, e)

decimal-after : (m n : ℕ) (ds : List ℕ) → 0 < n → AllDigits ds
    → decimal (m + length ds) (value_from n ds) ≡ decimal m n ++ ds
unfolding value_from
decimal-after m n [] p a = rw (add-zero m, append-nil (decimal m n))
decimal-after m n (d ∷ ds) p a =
    rw (
      add-suc m (length ds),
      ← suc-add m (length ds),
      decimal-after (suc m) (n * 10 + (d - 48)) ds (omega arith) a.1,
      decimal-push m n d p a.0,
      append_assoc,
    )

-- digits without a leading zero are those of their number
value-decimal : (m : ℕ) (ds : List ℕ) → AllDigits ds → T (no_leading_zero ds) → length ds ≤ suc m
    → decimal (suc m) (value_from 0 ds) ≡ ds
unfolding value_from no_leading_zero
value-decimal m [] a t h = absurd t
value-decimal m (d ∷ []) a t h =
    let r = digit-bounds d a.0 in
    let e : 48 + (0 * 10 + (d - 48)) ≡ d = omega arith in
    rw (decimal-last m (0 * 10 + (d - 48)) (omega arith), e)
value-decimal m (d ∷ e ∷ ds) a t h =
    let r = digit-bounds d a.0 in
    let q = eqb-false d 48 (is_false (eqb d 48) t) in
    let k = m - length (e ∷ ds) in
    let z : suc k + length (e ∷ ds) ≡ suc m = omega arith in
    let f : 48 + (0 * 10 + (d - 48)) ≡ d = omega arith in
    ap (λ (j : ℕ). decimal j (value_from 0 (d ∷ e ∷ ds))) (sym z)
    ∙ decimal-after (suc k) (0 * 10 + (d - 48)) (e ∷ ds) (omega arith) a.1
    ∙ rw (decimal-last k (0 * 10 + (d - 48)) (omega arith), f)

-- ---- a number without its sign

pub malformed-not-taken : {A X : Type 0} {a : A} {rest : List ℕ} → malformed ≡ taken a rest → X
malformed-not-taken e = clash cc

pub unsigned_reads : (n : ℕ) (rest : List ℕ) → n < 10 ^ 15 → T (no_digit_first rest)
    → read_unsigned (unsigned_text n ++ rest) ≡ taken n rest
unfolding read_unsigned unsigned_text well_formed
unsigned_reads n rest h t =
    let f = digits-front (decimal 15 n) rest (decimal-all 15 n) t in
    let w = is_true (well_formed (decimal 15 n)) (and_i (no_leading_zero (decimal 15 n)) (leb (length (decimal 15 n)) 15)
    (decimal-no-leading 14 n h) (le→leb (length (decimal 15 n)) 15 (unsigned-length n).1)) in
    rw (f.0, f.1, w, decimal-value 15 n h)

-- what was read, and where it stops
pub record TextOf (text : List ℕ) (size : ℕ) (bs rest : List ℕ) : Type 0 where
  pub is : bs ≡ text ++ rest
  pub small : size < 10 ^ 15
  pub stops : T (no_digit_first rest)

unsigned-read : (bs : List ℕ) (n : ℕ) (rest : List ℕ) → read_unsigned bs ≡ taken n rest
    → TextOf (unsigned_text n) n bs rest
unfolding read_unsigned unsigned_text well_formed
unsigned-read bs n rest e = go (well_formed (digits bs)) refl e
  where
    go : (c : Bool) → well_formed (digits bs) ≡ c
        → cond c (taken (value (digits bs)) (after_digits bs)) malformed ≡ taken n rest
        → TextOf (unsigned_text n) n bs rest
    go true w q =
        let v : value (digits bs) ≡ n = cc in
        let r : after_digits bs ≡ rest = cc in
        let f = front bs in
        let t : T (well_formed (digits bs)) = rw w tt in
        let z = and_l (no_leading_zero (digits bs)) (leb (length (digits bs)) 15) t in
        let d = value-decimal 14 (digits bs) f.all z (well-bounds (digits bs) w).1 in
        rw (← v, ← r)
        (record { is = rw (d, digits-split bs); small = (digits-taken bs w).small; stops = f.stops })
    go false w q = malformed-not-taken q

-- ---- a number

digit-not-minus : (b : ℕ) → is_digit b ≡ true → eqb b minus_sign ≡ false
digit-not-minus b t = let r = digit-bounds b t in ne_eqb b 45 (omega arith)

-- bytes that begin with a digit are read without a sign
number-positive : (ds rest : List ℕ) → T (no_leading_zero ds) → AllDigits ds
    → read_number (ds ++ rest) ≡ positive (read_unsigned (ds ++ rest))
unfolding read_number no_leading_zero
number-positive [] rest t a = absurd t
number-positive (d ∷ ds) rest t a = rw (digit-not-minus d a.0, read_number)

unsigned-positive : (n : ℕ) (rest : List ℕ) → n < 10 ^ 15
    → read_number (unsigned_text n ++ rest) ≡ positive (read_unsigned (unsigned_text n ++ rest))
unfolding unsigned_text
unsigned-positive n rest h = number-positive (decimal 15 n) rest (decimal-no-leading 14 n h) (decimal-all 15 n)

-- the text of a number reads as the number, whatever follows it that is no digit
pub number-reads : (v : ℤ) (rest : List ℕ) → nat_abs v < 10 ^ 15 → T (no_digit_first rest)
    → read_number (number_text v ++ rest) ≡ taken v rest
unfolding read_number number_text positive negated
number-reads (pos n) rest h t =
    rw (unsigned-positive n rest h, unsigned_reads n rest h t)
number-reads (negsuc n) rest h t = rw (unsigned_reads (suc n) rest h t)

negated-read : (bs : List ℕ) (v : ℤ) (rest : List ℕ) (q : Parse ℕ) → read_unsigned bs ≡ q → negated q ≡ taken v rest
    → TextOf (number_text v) (nat_abs v) (minus_sign ∷ bs) rest
unfolding negated number_text
negated-read bs v rest malformed u e = malformed-not-taken e
negated-read bs v rest (taken zero r) u e = malformed-not-taken e
negated-read bs v rest (taken (suc n) r) u e =
    let x : negsuc n ≡ v = cc in
    let y : r ≡ rest = cc in
    let t = unsigned-read bs (suc n) r u in
    rw (← x, ← y) (record { is = ap (λ (l : List ℕ). minus_sign ∷ l) t.is; small = t.small; stops = t.stops })

positive-read : (bs : List ℕ) (v : ℤ) (rest : List ℕ) (q : Parse ℕ) → read_unsigned bs ≡ q → positive q ≡ taken v rest
    → TextOf (number_text v) (nat_abs v) bs rest
unfolding positive number_text
positive-read bs v rest malformed u e = malformed-not-taken e
positive-read bs v rest (taken n r) u e =
    let x : pos n ≡ v = cc in
    let y : r ≡ rest = cc in
    rw (← x, ← y) (unsigned-read bs n r u)

-- and what reads as a number is its text
pub number-read : (bs : List ℕ) (v : ℤ) (rest : List ℕ) → read_number bs ≡ taken v rest
    → TextOf (number_text v) (nat_abs v) bs rest
unfolding read_number
number-read [] v rest e = malformed-not-taken e
number-read (b ∷ bs) v rest e = go (eqb b minus_sign) refl e
  where
    go : (c : Bool) → eqb b minus_sign ≡ c
        → ◌≡◌ {A = Parse ℤ} (elim c [ true ↦ negated (read_unsigned bs) | false ↦ positive (read_unsigned (b ∷ bs)) ])
        (taken v rest)
        → TextOf (number_text v) (nat_abs v) (b ∷ bs) rest
    go true w q = rw (eqb-true b 45 w) (negated-read bs v rest (read_unsigned bs) refl q)
    go false w q = positive-read (b ∷ bs) v rest (read_unsigned (b ∷ bs)) refl q
