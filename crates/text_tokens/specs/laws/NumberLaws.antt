-- Reading a number: what it takes is below 10¹⁵ in size and leaves a shorter end of the bytes. The last laws pass from a
-- place in a slice to the bytes from that place on.
use Rattle.std.specs.Prelude.{◌≡◌, refl, ℕ, zero, suc, ◌+◌, ◌-◌, ◌^◌, ◌<◌, Bool, true, false, cond, List, [], ◌∷◌, eqb, ℤ, nat_abs, length, drop, Some, None}
use Rattle.std.proofs.Common.{sym, ap, subst, ◌∙◌, zero-lt-suc, arith, eqb-true, eq-eqb, ne_eqb, length-drop, drop-drop}
use Rattle.std.proofs.Math.Nat.{pow-le-pow_right}
use Rattle.std.proofs.lemmas.Bool.{eqb-false}
use Rattle.std.proofs.lemmas.Option.{some_pair_parts}
use Rattle.text_tokens.specs.Text.{Parse, malformed, taken}
use Rattle.text_tokens.specs.Number.{minus_sign, most_digits, digits, after_digits, value, well_formed}
use Rattle.text_tokens.specs.Number.{read_unsigned, negated, positive, read_number}
use Rattle.text_tokens.specs.code.Places.{placed, number_at}
use Rattle.text_tokens.specs.laws.DigitLaws.{after-drop, digits-length, value-below, well-bounds}

-- ---- over lists

-- a number of size n is taken from the bytes, and the rest is an end of them
pub record Taken (bs : List ℕ) (n : ℕ) (rest : List ℕ) : Type 0 where
  pub small : n < 10 ^ most_digits
  pub shorter : length rest < length bs
  pub left : rest ≡ drop (length bs - length rest) bs

-- the same bytes with one more in front
later : (b : ℕ) {bs : List ℕ} {n : ℕ} {rest : List ℕ} → Taken bs n rest → Taken (b ∷ bs) n rest
later b {bs} {rest} t =
    let e : suc (length bs) - length rest ≡ suc (length bs - length rest) = omega (arith, t.shorter) in
    record { small = t.small; shorter = omega (arith, t.shorter); left = rw e t.left }

-- digits that are a number
pub digits-taken : (bs : List ℕ) → well_formed (digits bs) ≡ true → Taken bs (value (digits bs)) (after_digits bs)
digits-taken bs e =
    let w = well-bounds (digits bs) e in
    let q : length bs - length (after_digits bs) ≡ length (digits bs) = omega (arith, digits-length bs) in
    record {
      small = omega (arith, value-below 0 bs, pow-le-pow_right {n = 10} (zero-lt-suc 9) w.1);
      shorter = omega (arith, digits-length bs);
      left = rw q (after-drop bs);
    }

-- whatever is read without a sign, and with one
abbrev UnsignedTaken : List ℕ → Parse ℕ → Type 0
UnsignedTaken bs malformed = Unit
UnsignedTaken bs (taken v rest) = Taken bs v rest

abbrev NumberTaken : List ℕ → Parse ℤ → Type 0
NumberTaken bs malformed = Unit
NumberTaken bs (taken v rest) = Taken bs (nat_abs v) rest

unsigned-all : (bs : List ℕ) → UnsignedTaken bs (read_unsigned bs)
unfolding read_unsigned
unsigned-all bs = go (well_formed (digits bs)) refl
  where
    go : (x : Bool) → well_formed (digits bs) ≡ x
        → UnsignedTaken bs (cond x (taken (value (digits bs)) (after_digits bs)) malformed)
    go true h = digits-taken bs h
    go false h = tt

negated-all : (b : ℕ) (bs : List ℕ) (p : Parse ℕ) → UnsignedTaken bs p → NumberTaken (b ∷ bs) (negated p)
unfolding negated
negated-all b bs malformed t = tt
negated-all b bs (taken zero rest) t = tt
negated-all b bs (taken (suc v) rest) t = later b t

positive-all : (bs : List ℕ) (p : Parse ℕ) → UnsignedTaken bs p → NumberTaken bs (positive p)
unfolding positive
positive-all bs malformed t = tt
positive-all bs (taken v rest) t = t

-- a minus, and another byte
pub read-minus : (b : ℕ) (bs : List ℕ) → b ≡ minus_sign → read_number (b ∷ bs) ≡ negated (read_unsigned bs)
unfolding read_number
read-minus b bs e = rw (eq-eqb b minus_sign e, read_number)

pub read_plain : (b : ℕ) (bs : List ℕ) → (b ≡ minus_sign → ⊥) → read_number (b ∷ bs) ≡ positive (read_unsigned (b ∷ bs))
unfolding read_number
read_plain b bs h = rw (ne_eqb b minus_sign h, read_number)

number-all : (bs : List ℕ) → NumberTaken bs (read_number bs)
unfolding read_number
number-all [] = tt
number-all (b ∷ bs) = go (eqb b minus_sign) refl
  where
    go : (x : Bool) → eqb b minus_sign ≡ x → NumberTaken (b ∷ bs) (read_number (b ∷ bs))
    go true e = rw (read-minus b bs (eqb-true b minus_sign e)) (negated-all b bs (read_unsigned bs) (unsigned-all bs))
    go false e =
        rw (read_plain b bs (eqb-false b minus_sign e))
        (positive-all (b ∷ bs) (read_unsigned (b ∷ bs)) (unsigned-all (b ∷ bs)))

-- what reading takes, without a sign and with one
pub unsigned-taken : (bs : List ℕ) {v : ℕ} {rest : List ℕ} → read_unsigned bs ≡ taken v rest → Taken bs v rest
unsigned-taken bs e = subst (UnsignedTaken bs) e (unsigned-all bs)

pub number-taken : (bs : List ℕ) {v : ℤ} {rest : List ℕ} → read_number bs ≡ taken v rest → Taken bs (nat_abs v) rest
number-taken bs e = subst (NumberTaken bs) e (number-all bs)

-- ---- at a place

-- what is left after a number stands at the place that its length shows
at_place : (bytes : List ℕ) (at : ℕ) {n : ℕ} {rest : List ℕ} → Taken (drop at bytes) n rest
    → drop (length bytes - length rest) bytes ≡ rest
at_place bytes at {rest} t =
    let l = length-drop at bytes in
    let e : length bytes - length rest ≡ at + (length (drop at bytes) - length rest) = omega (arith, t.shorter) in
    rw e (sym (t.left ∙ drop-drop (length (drop at bytes) - length rest) at bytes))

-- the number v was read at the place, and next is the place after it
pub number-found : (bytes : List ℕ) (at : ℕ) {v : ℤ} {next : ℕ} → number_at bytes at ≡ Some (v, next)
    → read_number (drop at bytes) ≡ taken v (drop next bytes)
unfolding number_at
number-found bytes at {v} {next} e = go (read_number (drop at bytes)) refl e
  where
    go : (p : Parse ℤ) → read_number (drop at bytes) ≡ p → placed (length bytes) p ≡ Some (v, next)
        → read_number (drop at bytes) ≡ taken v (drop next bytes)
    go malformed q h = cc
    go (taken w rest) q h =
        let parts = some_pair_parts _ _ _ _ h in
        rw (← parts.0, ← parts.1) (q ∙ ap (taken w) (sym (at_place bytes at (number-taken (drop at bytes) q))))

-- no number stands at the place
pub number-malformed : (bytes : List ℕ) (at : ℕ) → number_at bytes at ≡ None → read_number (drop at bytes) ≡ malformed
unfolding number_at
number-malformed bytes at e = go (read_number (drop at bytes)) e
  where
    go : (p : Parse ℤ) → placed (length bytes) p ≡ None → p ≡ malformed
    go malformed h = refl
    go (taken v rest) h = cc
