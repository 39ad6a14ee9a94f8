-- The laws of the fractions that are at least 0: order, sum, product, quotient, complement, and sums of lists.
use Rattle.std.specs.Prelude.{◌≡◌, ◌⊎◌, ◌↔◌, ℕ, ◌+◌, ◌*◌, ◌≤◌, ◌<◌}
use Rattle.std.proofs.Common.{ap, inl, inr, mul-le-mul, mul-le-mul_right, mul-lt-mul_of_pos_right, le_of_mul-le-mul_right, lt_of_mul-lt-mul_right, lt_of_not-le, add-sub_of_le, mul-pos, arith}
use Rattle.std.proofs.Math.Nat.{mul-sub}
use Rattle.std.proofs.Math.Decide.{dec_le}
use Rattle.number_fraction.specs.Ratio.{Ratio, ◌≤/◌, ◌</◌, whole/, ◌+/◌, ◌*/◌, quotient/, complement}
use Rattle.number_fraction.proofs.laws.RatioTerms.{◌≈/◌}

-- ---- the order

pub ≤/-refl : (x : Ratio) → x ≤/ x
≤/-refl x = omega arith

pub ≤/-trans : {x y z : Ratio} → x ≤/ y → y ≤/ z → x ≤/ z
≤/-trans {x} {y} {z} h k = record {
  cross = le_of_mul-le-mul_right {k = y.den}
      (omega (arith, mul-le-mul_right z.den h.cross, mul-le-mul_right x.den k.cross)) y.positive;
}

-- two fractions compare, one way or the other
pub ≤/-or-</ : (x y : Ratio) → (x ≤/ y) ⊎ (y </ x)
≤/-or-</ x y = elim (dec_le (x.num * y.den) (y.num * x.den))
    [ yes h ↦ inl (record { cross = h }) | no f ↦ inr (record { cross = lt_of_not-le f }) ]

pub </→≤/ : {x y : Ratio} → x </ y → x ≤/ y
</→≤/ h = omega arith

pub ≤/-total : (x y : Ratio) → (x ≤/ y) ⊎ (y ≤/ x)
≤/-total x y = elim (≤/-or-</ x y) [ inl h ↦ inl h | inr k ↦ inr (</→≤/ k) ]

-- the same number: equal cross products
pub ≈/-iff : {x y : Ratio} → (x ≈/ y) ↔ (x.num * y.den ≡ y.num * x.den)
≈/-iff {x} {y} = (λ e. omega arith, λ e. omega arith)

pub ≤/-antisym : {x y : Ratio} → x ≤/ y → y ≤/ x → x ≈/ y
≤/-antisym h k = record { below = h; above = k }

pub ≈/-trans : {x y z : Ratio} → x ≈/ y → y ≈/ z → x ≈/ z
≈/-trans e f = ≤/-antisym (≤/-trans e.below f.below) (≤/-trans f.above e.above)

-- ---- strictly less

pub </-≤/-trans : {x y z : Ratio} → x </ y → y ≤/ z → x </ z
</-≤/-trans {x} {y} {z} h k = record {
  cross = lt_of_mul-lt-mul_right y.den
      (omega (arith, mul-lt-mul_of_pos_right h.cross z.positive, mul-le-mul_right x.den k.cross));
}

pub ≤/-</-trans : {x y z : Ratio} → x ≤/ y → y </ z → x </ z
≤/-</-trans {x} {y} {z} h k = record {
  cross = lt_of_mul-lt-mul_right y.den
      (omega (arith, mul-le-mul_right z.den h.cross, mul-lt-mul_of_pos_right k.cross x.positive));
}

-- less and at least exclude one another, and one of them holds
pub not-</-of-≤/ : {x y : Ratio} → y ≤/ x → ¬ (x </ y)
not-</-of-≤/ h k = omega arith

pub not-≤/-of-</ : {x y : Ratio} → x </ y → ¬ (y ≤/ x)
not-≤/-of-</ k h = not-</-of-≤/ h k

pub </-irrefl : {x : Ratio} → ¬ (x </ x)
</-irrefl {x} h = not-</-of-≤/ (≤/-refl x) h

pub ≤/-of-not-</ : {x y : Ratio} → ¬ (x </ y) → y ≤/ x
≤/-of-not-</ {x} {y} f = elim (≤/-or-</ y x) [ inl h ↦ h | inr k ↦ absurd (f k) ]

pub </-of-not-≤/ : {x y : Ratio} → ¬ (y ≤/ x) → x </ y
</-of-not-≤/ {x} {y} f = elim (≤/-or-</ y x) [ inl h ↦ absurd (f h) | inr k ↦ k ]

-- ---- whole numbers

pub whole/-+/ : (a b : ℕ) → whole/ (a + b) ≈/ whole/ a +/ whole/ b
unfolding whole/ ◌+/◌
whole/-+/ a b = omega arith

pub whole/-*/ : (a b : ℕ) → whole/ (a * b) ≈/ whole/ a */ whole/ b
unfolding whole/ ◌*/◌
whole/-*/ a b = omega arith

pub whole/-positive : {k : ℕ} → 0 < k → 0 < (whole/ k).num
unfolding whole/
whole/-positive p = p

-- ---- the sum

-- the sum keeps the order in both places
pub +/-mono : {x y u v : Ratio} → x ≤/ y → u ≤/ v → x +/ u ≤/ y +/ v
unfolding ◌+/◌
+/-mono {x} {y} {u} {v} h k = omega
    (arith, mul-le-mul_right (u.den * v.den) h.cross, mul-le-mul_right (x.den * y.den) k.cross)

pub +/-comm : (x y : Ratio) → x +/ y ≈/ y +/ x
unfolding ◌+/◌
+/-comm x y = omega arith

pub +/-assoc : (x y z : Ratio) → (x +/ y) +/ z ≈/ x +/ (y +/ z)
unfolding ◌+/◌
+/-assoc x y z = omega arith

-- a common summand may be left out
pub +/-cancel : {x y : Ratio} (u : Ratio) → x +/ u ≤/ y +/ u → x ≤/ y
unfolding ◌+/◌
+/-cancel {x} {y} u h = record {
  cross = le_of_mul-le-mul_right {k = u.den * u.den}
      (omega (arith, h.cross)) (mul-pos u.positive u.positive);
}

-- a summand is at most the sum
pub ≤/-+/ : (x y : Ratio) → x ≤/ x +/ y
unfolding ◌+/◌
≤/-+/ x y = omega arith

-- ---- the product

-- and so does the product
pub */-mono : {x y u v : Ratio} → x ≤/ y → u ≤/ v → x */ u ≤/ y */ v
unfolding ◌*/◌
*/-mono h k = omega (arith, mul-le-mul h.cross k.cross)

pub */-cong : {x y u v : Ratio} → x ≈/ y → u ≈/ v → x */ u ≈/ y */ v
*/-cong e f = ≤/-antisym (*/-mono e.below f.below) (*/-mono e.above f.above)

pub */-comm : (x y : Ratio) → x */ y ≈/ y */ x
unfolding ◌*/◌
*/-comm x y = omega arith

pub */-one : (x : Ratio) → x */ whole/ 1 ≈/ x
unfolding ◌*/◌ whole/
*/-one x = omega arith

pub one-*/ : (x : Ratio) → whole/ 1 */ x ≈/ x
one-*/ x = ≈/-trans (*/-comm (whole/ 1) x) (*/-one x)

-- the product distributes over the sum
pub */-+/ : (x y z : Ratio) → x */ (y +/ z) ≈/ x */ y +/ x */ z
unfolding ◌*/◌ ◌+/◌
*/-+/ x y z = omega arith

pub +/-*/ : (x y z : Ratio) → (x +/ y) */ z ≈/ x */ z +/ y */ z
unfolding ◌*/◌ ◌+/◌
+/-*/ x y z = omega arith

-- ---- the quotient by a positive whole number, and the reciprocal

pub quotient/-mono : {x y : Ratio} → x ≤/ y → (k : ℕ) (p : 0 < k) → quotient/ x k p ≤/ quotient/ y k p
unfolding quotient/
quotient/-mono h k p = omega (arith, mul-le-mul_right k h.cross)

-- x/k ≤ y when x ≤ y·k, and y ≤ x/k when y·k ≤ x
pub quotient/-≤/ : {x y : Ratio} (k : ℕ) (p : 0 < k) → (x ≤/ y */ whole/ k) ↔ (quotient/ x k p ≤/ y)
unfolding quotient/ ◌*/◌ whole/
quotient/-≤/ k p = (λ h. omega arith, λ h. omega arith)

-- ---- the complement

-- the greater x, the less 1 − x
pub complement-reverse : {x y : Ratio} → x ≤/ y → complement y ≤/ complement x
unfolding complement
complement-reverse {x} {y} h = omega
    (arith, mul-sub x.den y.den y.num, mul-sub y.den x.den x.num)

-- a fraction is at most 1 when its numerator is at most its denominator
pub ≤/-one : {x : Ratio} → (x.num ≤ x.den) ↔ (x ≤/ whole/ 1)
unfolding whole/
≤/-one = (λ h. omega arith, λ h. omega arith)

-- x + (1 − x) = 1
pub +/-complement : {x : Ratio} → x ≤/ whole/ 1 → x +/ complement x ≈/ whole/ 1
unfolding complement ◌+/◌ whole/
+/-complement {x} h = omega (arith, ap (λ (m : ℕ). m * x.den) (add-sub_of_le (≤/-one.1 h)))
