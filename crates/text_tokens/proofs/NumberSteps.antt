-- A number from its digits: when they are one, its place and its sign.
use Rattle.std.specs.Prelude.{Option, Some, None}
use Rattle.std.proofs.lemmas.Option.{some_pair_parts}
use mathlib.Core.Path.{◌≡◌, refl, sym, ap, ◌∙◌}
use Prim.Native.Nat.{ℕ, zero, suc, ◌+◌, ◌-◌, ◌^◌, ◌≤◌, ◌<◌, min}
use native.Mathlib.Nat.{add-zero}
use native.Mathlib.Numerals.{add-one}
use native.Mathlib.Omega.{arith}
use mathlib.Core.Bool.{Bool, true, false}
use borrow.Author.Tests.{eqb-true, eqb-false, eq-eqb, ne_eqb}
use lib.Dec.{eqb}
use mathlib.Core.List.{List}
use lib.IntN.{pos, neg_ℤ, ◌-ℤ◌, +ℤ_idl}
use lib.ListN.{length, get_or, drop, length-take, length-drop, get_or-append, drop_of_length-le}
use lib.Seq.{take_all, get_or-drop, drop-cons}
use mir.Syntax.{w64}
use mir.Val.{SFits, to_z, of_z}
use mir.Facts.{to_z-of_z, to_z_pos}
use Rattle.number_whole.proofs.laws.Clash.{clash}
use Rattle.text_tokens.specs.declared.Digits.{Digits}
use Rattle.text_tokens.specs.Text.{Parse, malformed, taken}
use Rattle.text_tokens.specs.Number.{minus_sign, zero_digit, most_digits, digits, after_digits, value_from, value, well_formed}
use Rattle.text_tokens.specs.Number.{read_unsigned, negated, positive, read_number}
use Rattle.text_tokens.specs.code.Places.{placed, number_at}
use Rattle.text_tokens.specs.Number.{leading}
use Rattle.text_tokens.specs.code.Unsigned.{DigitsRead, placed_unsigned, unsigned_at, minuses}
use Rattle.text_tokens.specs.laws.DigitLaws.{digits-split, digits-length, ill-none, ill-long, ill-zero, well-one, well-more}
use Rattle.text_tokens.specs.laws.NumberLaws.{unsigned-taken, read-minus, read_plain}

-- ---- from the digits that were read to the number without its sign
module _ {bytes : List ℕ} {at : ℕ} {r : Digits} (d : DigitsRead bytes at r) where
  -- all digits are counted, up to 16
  count-is : r.count ≡ min (suc most_digits) (length (digits (drop at bytes)))
  unfolding leading
  count-is = d.counted ∙ length-take (suc most_digits) (digits (drop at bytes))

  -- they stand within the bytes
  pub count-within : r.count ≤ length bytes - at
  count-within = omega (arith, count-is, digits-length (drop at bytes), length-drop at bytes)

  -- the first digit is the byte at the place
  first-digit : 0 < r.count → get_or (digits (drop at bytes)) 0 0 ≡ get_or bytes at 0
  first-digit h =
      let l : 0 < length (digits (drop at bytes)) = omega (arith, count-is) in
      sym (get_or-append (digits (drop at bytes)) (after_digits (drop at bytes)) 0 0 l)
      ∙ ap (λ (l : List ℕ). get_or l 0 0) (digits-split (drop at bytes))
      ∙ get_or-drop at bytes 0 0
      ∙ ap (λ (i : ℕ). get_or bytes i 0) (add-zero at)

  -- digits that are no number, and digits that are one
  ill : well_formed (digits (drop at bytes)) ≡ false → unsigned_at bytes at ≡ None
  unfolding unsigned_at read_unsigned
  ill e = rw e

  pub malformed-none : r.count ≡ 0 → unsigned_at bytes at ≡ None
  malformed-none h = ill (ill-none _ (omega (arith, count-is)))

  pub malformed-long : most_digits < r.count → unsigned_at bytes at ≡ None
  malformed-long h = ill (ill-long _ (omega (arith, count-is)))

  pub malformed-zero : 1 < r.count → get_or bytes at 0 ≡ zero_digit → unsigned_at bytes at ≡ None
  malformed-zero h e = ill (ill-zero _ (omega (arith, count-is)) (first-digit (omega arith) ∙ e))

  well : 0 < r.count → r.count ≤ most_digits → well_formed (digits (drop at bytes)) ≡ true
      → unsigned_at bytes at ≡ Some (r.value, at + r.count)
  unfolding unsigned_at read_unsigned leading
  well h k e =
      let l : length (digits (drop at bytes)) ≤ suc most_digits = omega (arith, count-is) in
      let v : value (digits (drop at bytes)) ≡ r.value =
      ap (value_from 0) (sym (take_all (suc most_digits) (digits (drop at bytes)) l)) ∙ sym d.valued in
      let n : length bytes - length (after_digits (drop at bytes)) ≡ at + r.count =
      omega (arith, count-is, digits-length (drop at bytes), length-drop at bytes) in
      rw (e, v, n)

  pub taken-one : r.count ≡ 1 → unsigned_at bytes at ≡ Some (r.value, at + r.count)
  taken-one h = well (omega arith) (omega arith) (well-one _ (omega (arith, count-is)))

  pub taken_more : 1 < r.count → r.count ≤ most_digits → (get_or bytes at 0 ≡ zero_digit → ⊥)
      → unsigned_at bytes at ≡ Some (r.value, at + r.count)
  taken_more h k n =
      well (omega arith) k
      (well-more _ (omega (arith, count-is)) (omega (arith, count-is)) (λ e. n (sym (first-digit (omega arith)) ∙ e)))

-- ---- the sign

-- what a number without its sign gives, after a minus and with none
placed-zero : (n : ℕ) (p : Parse ℕ) {v next : ℕ} → placed_unsigned n p ≡ Some (v, next) → v ≡ 0
    → placed n (negated p) ≡ None
unfolding negated
placed-zero n malformed e h = cc
placed-zero n (taken zero rest) e h = refl
placed-zero n (taken (suc w) rest) {v} e h = let q : suc w ≡ v = (some_pair_parts _ _ _ _ e).0 in absurd (omega arith)

placed-minus : (n : ℕ) (p : Parse ℕ) {v next : ℕ} → placed_unsigned n p ≡ Some (v, next) → (v ≡ 0 → ⊥)
    → placed n (negated p) ≡ Some (neg_ℤ (pos v), next)
unfolding negated
placed-minus n malformed e h = cc
placed-minus n (taken zero rest) e h = absurd (h (sym (some_pair_parts _ _ _ _ e).0))
placed-minus n (taken (suc w) rest) e h = let parts = some_pair_parts _ _ _ _ e in rw (← parts.0, ← parts.1)

placed-plain : (n : ℕ) (p : Parse ℕ) {v next : ℕ} → placed_unsigned n p ≡ Some (v, next)
    → placed n (positive p) ≡ Some (pos v, next)
unfolding positive
placed-plain n malformed e = cc
placed-plain n (taken w rest) e = let parts = some_pair_parts _ _ _ _ e in rw (← parts.0, ← parts.1)

placed-malformed : (n : ℕ) (p : Parse ℕ) → placed_unsigned n p ≡ None
    → (placed n (negated p) ≡ None) × (placed n (positive p) ≡ None)
unfolding negated positive
placed-malformed n malformed e = (refl, refl)
placed-malformed n (taken w rest) e = (cc, cc)

-- ---- in 64 bits

-- a number without its sign is below 10¹⁵
pub unsigned_small : (bytes : List ℕ) (at : ℕ) {r : Option (ℕ × ℕ)} {v next : ℕ} → r ≡ unsigned_at bytes at
    → r ≡ Some (v, next) → v < 10 ^ most_digits
unfolding unsigned_at
unsigned_small bytes at {v} {next} e w = go (read_unsigned (drop at bytes)) refl (sym e ∙ w)
  where
    go : (p : Parse ℕ) → read_unsigned (drop at bytes) ≡ p → placed_unsigned (length bytes) p ≡ Some (v, next)
        → v < 10 ^ most_digits
    go malformed q u = clash cc
    go (taken w rest) q u =
        let ev : w ≡ v = (some_pair_parts _ _ _ _ u).0 in omega (arith, (unsigned-taken (drop at bytes) q).small)

-- v and −v fit, and are read back from their bits
pub positive-fits : (v : ℕ) → v < 10 ^ most_digits → SFits w64 (pos v)
positive-fits v h = record { sfits = omega arith }

positive_back : (v : ℕ) → v < 10 ^ most_digits → to_z w64 v ≡ pos v
positive_back v h = to_z_pos w64 (omega arith)

-- 0 − v, as the code negates
less : (v : ℕ) → pos 0 -ℤ pos v ≡ neg_ℤ (pos v)
less v = +ℤ_idl (neg_ℤ (pos v))

negative_fits : (v : ℕ) → v < 10 ^ most_digits → SFits w64 (neg_ℤ (pos v))
negative_fits zero h = record { sfits = omega arith }
negative_fits (suc v) h = record { sfits = omega arith }

pub minus-fits : (v : ℕ) → v < 10 ^ most_digits → SFits w64 (pos 0 -ℤ to_z w64 v)
minus-fits v h = rw (positive_back v h, less v) (negative_fits v h)

minus-back : (v : ℕ) → v < 10 ^ most_digits → to_z w64 (of_z w64 (pos 0 -ℤ to_z w64 v)) ≡ neg_ℤ (pos v)
minus-back v h = rw (positive_back v h, less v) (to_z-of_z (negative_fits v h))

-- ---- what stands at the place: nothing, a minus, or another byte

pub number_past : (bytes : List ℕ) (at : ℕ) → length bytes ≤ at → number_at bytes at ≡ None
unfolding number_at read_number
number_past bytes at h = rw (drop_of_length-le bytes h)

-- a minus is counted, or no minus
pub minus_one : (b : ℕ) → b ≡ minus_sign → minuses b ≡ 1
unfolding minuses
minus_one b e = rw (eq-eqb b minus_sign e)

pub minus-none : (b : ℕ) → (b ≡ minus_sign → ⊥) → minuses b ≡ 0
unfolding minuses
minus-none b h = rw (ne_eqb b minus_sign h)

pub minus-most : (b : ℕ) → minuses b ≤ 1
minus-most b = go (eqb b minus_sign) refl
  where
    go : (x : Bool) → eqb b minus_sign ≡ x → minuses b ≤ 1
    go true e = rw (minus_one b (eqb-true b minus_sign e)) (omega arith)
    go false e = rw (minus-none b (eqb-false b minus_sign e)) (omega arith)

module _ (bytes : List ℕ) (at : ℕ) {r : Option (ℕ × ℕ)} (h : at < length bytes) where
  -- after a minus, with what was read behind it
  module _ (e : get_or bytes at 0 ≡ minus_sign) (u : r ≡ unsigned_at bytes (at + 1)) where
    minus_is : number_at bytes at ≡ placed (length bytes) (negated (read_unsigned (drop (at + 1) bytes)))
    unfolding number_at
    minus_is = rw (add-one at, drop-cons bytes at 0, read-minus _ (drop (suc at) bytes) e)

    pub minus-malformed : r ≡ None → number_at bytes at ≡ None
    unfolding unsigned_at
    minus-malformed w = minus_is ∙ (placed-malformed _ _ (sym u ∙ w)).0

    module _ {v next : ℕ} (w : r ≡ Some (v, next)) where
      pub minus-zero : v ≡ 0 → number_at bytes at ≡ None
      unfolding unsigned_at
      minus-zero z = minus_is ∙ placed-zero _ _ (sym u ∙ w) z

      pub minus_number : (v ≡ 0 → ⊥) → number_at bytes at ≡ Some (to_z w64 (of_z w64 (pos 0 -ℤ to_z w64 v)), next)
      unfolding unsigned_at
      minus_number z =
          rw (minus-back v (unsigned_small bytes (at + 1) u w)) (minus_is ∙ placed-minus _ _ (sym u ∙ w) z)

  -- with no sign, and what was read at the place itself
  module _ (e : get_or bytes at 0 ≡ minus_sign → ⊥) (u : r ≡ unsigned_at bytes at) where
    plain-is : number_at bytes at ≡ placed (length bytes) (positive (read_unsigned (drop at bytes)))
    unfolding number_at
    plain-is = rw (drop-cons bytes at 0, read_plain _ (drop (suc at) bytes) e)

    pub plain-malformed : r ≡ None → number_at bytes at ≡ None
    unfolding unsigned_at
    plain-malformed w = plain-is ∙ (placed-malformed _ _ (sym u ∙ w)).1

    pub plain-number : {v next : ℕ} → r ≡ Some (v, next) → number_at bytes at ≡ Some (to_z w64 v, next)
    unfolding unsigned_at
    plain-number {v} w =
        rw (positive_back v (unsigned_small bytes at u w)) (plain-is ∙ placed-plain _ _ (sym u ∙ w))

-- the sign and then what was read behind it, by the count of minuses
module _ (bytes : List ℕ) (at : ℕ) {m : ℕ} {r : Option (ℕ × ℕ)} (h : at < length bytes) (c : m ≡ minuses (get_or bytes at 0))
    (u : r ≡ unsigned_at bytes (at + m)) where
  by_sign : {P : Type 0} → (get_or bytes at 0 ≡ minus_sign → m ≡ 1 → P) → ((get_or bytes at 0 ≡ minus_sign → ⊥) → m ≡ 0 → P) → P
  by_sign {P} f g = go (eqb (get_or bytes at 0) minus_sign) refl
    where
      go : (x : Bool) → eqb (get_or bytes at 0) minus_sign ≡ x → P
      go true e = let k = eqb-true _ _ e in f k (c ∙ minus_one _ k)
      go false e = let k = eqb-false _ _ e in g k (c ∙ minus-none _ k)

  pub sign-malformed : r ≡ None → number_at bytes at ≡ None
  sign-malformed w =
      by_sign (λ e k. minus-malformed bytes at h e (rw k at u) w)
      (λ e k. plain-malformed bytes at h e (rw (k, add-zero at) at u) w)

  module _ {v next : ℕ} (w : r ≡ Some (v, next)) where
    pub sign-none : m ≡ 0 → number_at bytes at ≡ Some (to_z w64 v, next)
    sign-none z =
        by_sign (λ e k. absurd (omega arith)) (λ e k. plain-number bytes at h e (rw (k, add-zero at) at u) w)

    pub sign_zero : (m ≡ 0 → ⊥) → v ≡ 0 → number_at bytes at ≡ None
    sign_zero n z = by_sign (λ e k. minus-zero bytes at h e (rw k at u) w z) (λ e k. absurd (n k))

    pub sign-minus : (m ≡ 0 → ⊥) → (v ≡ 0 → ⊥) → number_at bytes at ≡ Some (to_z w64 (of_z w64 (pos 0 -ℤ to_z w64 v)), next)
    sign-minus n z = by_sign (λ e k. minus_number bytes at h e (rw k at u) w z) (λ e k. absurd (n k))
