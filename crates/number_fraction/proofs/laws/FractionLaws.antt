-- The laws of the signed fractions: order, sum, negation, product, quotient, sums of lists, and how the fractions that
-- are at least 0 stand among them.
use Rattle.std.specs.Prelude.{◌≡◌, refl, ◌↔◌, List, [], ◌∷◌, map, ℕ, ◌+◌, ◌*◌, ◌≤◌, ◌<◌, ℤ, pos, neg_ℤ, nat_abs, ◌+ℤ◌, ◌*ℤ◌, ◌≤ℤ◌}
use Rattle.std.proofs.Math.Nat.{mul-le-mul_right}
use Rattle.std.proofs.Common.{le_of_mul-le-mul_right, arith}
use Rattle.number_whole.specs.Parts.{below}
use Rattle.number_whole.proofs.laws.Above.{above}
use Rattle.number_whole.proofs.laws.Split.{split}
use Rattle.number_fraction.specs.Ratio.{Ratio, ◌≤/◌, whole/, ◌+/◌}
use Rattle.number_fraction.proofs.laws.RatioTerms.{sum/}
use Rattle.number_fraction.specs.Fraction.{Fraction, ◌≤ℚ◌, wholeℚ, signed, absolute, ◌+ℚ◌, scaleℚ, quotientℚ}
use Rattle.number_fraction.proofs.laws.FractionTerms.{◌≈ℚ◌, ◌*ℚ◌, negℚ, divideℚ, sumℚ}
use Rattle.number_fraction.proofs.laws.RatioLaws.{whole/-positive}
use Rattle.number_whole.proofs.laws.Difference.{Difference, difference, difference-pos, difference-nonneg, difference-nonpos, difference-neg, difference-add, difference-scale, difference-mul, difference-le}

-- ---- the order by differences: with numerators p − n over b and q − m over d, at most is p·d + m·b ≤ q·b + n·d

pub ≤ℚ-difference : {x y : Fraction} {p n q m : ℕ} → Difference x.num p n → Difference y.num q m
    → (p * y.den + m * x.den ≤ q * x.den + n * y.den) ↔ (x ≤ℚ y)
≤ℚ-difference {x} {y} d e = (
  λ h. record { cross = (difference-le (difference-scale d y.den) (difference-scale e x.den)).0 h },
  λ h. (difference-le (difference-scale d y.den) (difference-scale e x.den)).1 h.cross,
)

pub ≈ℚ-difference : {x y : Fraction} {p n q m : ℕ} → Difference x.num p n → Difference y.num q m
    → p * y.den + m * x.den ≡ q * x.den + n * y.den → x ≈ℚ y
≈ℚ-difference d e h = record
    { below = (≤ℚ-difference d e).0 (omega arith); above = (≤ℚ-difference e d).0 (omega arith) }

-- (p·k − n·k)/(b·k) is (p − n)/b
≈ℚ-multiple : {x y : Fraction} {p n q m : ℕ} (k : ℕ) → Difference x.num p n → Difference y.num q m
    → q ≡ p * k → m ≡ n * k → y.den ≡ x.den * k → x ≈ℚ y
≈ℚ-multiple k d e f g h = ≈ℚ-difference d e (rw (f, g, h) (omega arith))

-- the numerator by its parts, and what an order says of them
parts : (x : Fraction) → Difference x.num (above x.num) (below x.num)
parts x = difference x.num

le_parts : {x y : Fraction} → x ≤ℚ y
    → above x.num * y.den + below y.num * x.den ≤ above y.num * x.den + below x.num * y.den
le_parts {x} {y} h = (≤ℚ-difference (parts x) (parts y)).1 h

-- ---- the order

pub ≤ℚ-refl : (x : Fraction) → x ≤ℚ x
≤ℚ-refl x = (≤ℚ-difference (parts x) (parts x)).0 (omega arith)

pub ≤ℚ-trans : {x y z : Fraction} → x ≤ℚ y → y ≤ℚ z → x ≤ℚ z
≤ℚ-trans {x} {y} {z} h k = (≤ℚ-difference (parts x) (parts z)).0 (le_of_mul-le-mul_right {k = y.den}
    (omega (arith, mul-le-mul_right z.den (le_parts h), mul-le-mul_right x.den (le_parts k))) y.positive)

pub ≤ℚ-antisym : {x y : Fraction} → x ≤ℚ y → y ≤ℚ x → x ≈ℚ y
≤ℚ-antisym h k = record { below = h; above = k }

pub ≈ℚ-sym : {x y : Fraction} → x ≈ℚ y → y ≈ℚ x
≈ℚ-sym e = ≤ℚ-antisym e.above e.below

pub ≈ℚ-trans : {x y z : Fraction} → x ≈ℚ y → y ≈ℚ z → x ≈ℚ z
≈ℚ-trans e f = ≤ℚ-antisym (≤ℚ-trans e.below f.below) (≤ℚ-trans f.above e.above)

-- ---- the numerators of sum, difference and product by differences

num-+ℚ : (x y : Fraction) {p n q m : ℕ} → Difference x.num p n → Difference y.num q m
    → Difference (x +ℚ y).num (p * y.den + q * x.den) (n * y.den + m * x.den)
unfolding ◌+ℚ◌
num-+ℚ x y d e = difference-add (difference-scale d y.den) (difference-scale e x.den)

num-*ℚ : (x y : Fraction) {p n q m : ℕ} → Difference x.num p n → Difference y.num q m
    → Difference (x *ℚ y).num (p * q + n * m) (p * m + n * q)
unfolding ◌*ℚ◌
num-*ℚ x y d e = difference-mul d e

num-negℚ : (x : Fraction) {p n : ℕ} → Difference x.num p n → Difference (negℚ x).num n p
unfolding negℚ
num-negℚ x d = difference-neg d

-- ---- the sum

pub +ℚ-comm : (x y : Fraction) → x +ℚ y ≈ℚ y +ℚ x
unfolding ◌+ℚ◌
+ℚ-comm x y = ≈ℚ-difference (num-+ℚ x y (parts x) (parts y)) (num-+ℚ y x (parts y) (parts x)) (omega arith)

pub +ℚ-assoc : (x y z : Fraction) → (x +ℚ y) +ℚ z ≈ℚ x +ℚ (y +ℚ z)
unfolding ◌+ℚ◌
+ℚ-assoc x y z = ≈ℚ-difference (num-+ℚ (x +ℚ y) z (num-+ℚ x y (parts x) (parts y)) (parts z))
    (num-+ℚ x (y +ℚ z) (parts x) (num-+ℚ y z (parts y) (parts z))) (omega arith)

-- the sum keeps the order in both places
pub +ℚ-mono : {x y u v : Fraction} → x ≤ℚ y → u ≤ℚ v → x +ℚ u ≤ℚ y +ℚ v
+ℚ-mono {x} {y} {u} {v} h k = ≤ℚ-trans (left h u) (≤ℚ-trans (+ℚ-comm y u).below
    (≤ℚ-trans (left k y) (+ℚ-comm v y).below))
  where
    left : {x y : Fraction} → x ≤ℚ y → (u : Fraction) → x +ℚ u ≤ℚ y +ℚ u
    left {x} {y} h u = unfold ◌+ℚ◌ in
        (≤ℚ-difference (num-+ℚ x u (parts x) (parts u)) (num-+ℚ y u (parts y) (parts u))).0
        (omega (arith, mul-le-mul_right (u.den * u.den) (le_parts h)))

pub +ℚ-cong : {x y u v : Fraction} → x ≈ℚ y → u ≈ℚ v → x +ℚ u ≈ℚ y +ℚ v
+ℚ-cong e f = ≤ℚ-antisym (+ℚ-mono e.below f.below) (+ℚ-mono e.above f.above)

pub +ℚ-zero : (x : Fraction) → x +ℚ wholeℚ (pos 0) ≈ℚ x
unfolding ◌+ℚ◌ wholeℚ
+ℚ-zero x = ≈ℚ-difference (num-+ℚ x (wholeℚ (pos 0)) (parts x) (difference-pos 0)) (parts x) (omega arith)

-- ---- negation and difference

-- the greater x, the less −x
pub negℚ-reverse : {x y : Fraction} → x ≤ℚ y → negℚ y ≤ℚ negℚ x
unfolding negℚ
negℚ-reverse {x} {y} h = (≤ℚ-difference (num-negℚ y (parts y)) (num-negℚ x (parts x))).0 (omega (arith, le_parts h))

-- ---- the product

pub *ℚ-comm : (x y : Fraction) → x *ℚ y ≈ℚ y *ℚ x
unfolding ◌*ℚ◌
*ℚ-comm x y = ≈ℚ-difference (num-*ℚ x y (parts x) (parts y)) (num-*ℚ y x (parts y) (parts x)) (omega arith)

-- the product distributes over the sum
pub *ℚ-+ℚ : (x y z : Fraction) → x *ℚ (y +ℚ z) ≈ℚ x *ℚ y +ℚ x *ℚ z
unfolding ◌*ℚ◌ ◌+ℚ◌
*ℚ-+ℚ x y z = ≈ℚ-multiple x.den (num-*ℚ x (y +ℚ z) (parts x) (num-+ℚ y z (parts y) (parts z)))
    (num-+ℚ (x *ℚ y) (x *ℚ z) (num-*ℚ x y (parts x) (parts y)) (num-*ℚ x z (parts x) (parts z)))
    (omega arith) (omega arith) (omega arith)

-- a factor q/d keeps the order, a factor −q/d exchanges it
times-keeps : {x y : Fraction} (u : Fraction) {q : ℕ} → Difference u.num q 0 → x ≤ℚ y → x *ℚ u ≤ℚ y *ℚ u
unfolding ◌*ℚ◌
times-keeps {x} {y} u {q} d h = (≤ℚ-difference (num-*ℚ x u (parts x) d) (num-*ℚ y u (parts y) d)).0
    (omega (arith, mul-le-mul_right (q * u.den) (le_parts h)))

times-exchanges : {x y : Fraction} (u : Fraction) {q : ℕ} → Difference u.num 0 q → x ≤ℚ y → y *ℚ u ≤ℚ x *ℚ u
unfolding ◌*ℚ◌
times-exchanges {x} {y} u {q} d h = (≤ℚ-difference (num-*ℚ y u (parts y) d) (num-*ℚ x u (parts x) d)).0
    (omega (arith, mul-le-mul_right (q * u.den) (le_parts h)))

-- a fraction's sign is its numerator's
pub num-nonneg : {x : Fraction} → (pos 0 ≤ℤ x.num) ↔ (wholeℚ (pos 0) ≤ℚ x)
unfolding wholeℚ
num-nonneg {x} = (
  λ h. (≤ℚ-difference (difference-pos 0) (parts x)).0 (omega split),
  λ h. omega (split, (≤ℚ-difference (difference-pos 0) (parts x)).1 h),
)

pub num-nonpos : {x : Fraction} → (x.num ≤ℤ pos 0) ↔ (x ≤ℚ wholeℚ (pos 0))
unfolding wholeℚ
num-nonpos {x} = (
  λ h. (≤ℚ-difference (parts x) (difference-pos 0)).0 (omega split),
  λ h. omega (split, (≤ℚ-difference (parts x) (difference-pos 0)).1 h),
)

-- a factor of at least 0 keeps the order, one of at most 0 exchanges it
pub *ℚ-keeps : {x y u : Fraction} → wholeℚ (pos 0) ≤ℚ u → x ≤ℚ y → x *ℚ u ≤ℚ y *ℚ u
*ℚ-keeps {u = u} p h = times-keeps u (difference-nonneg (num-nonneg.1 p)) h

pub *ℚ-exchanges : {x y u : Fraction} → u ≤ℚ wholeℚ (pos 0) → x ≤ℚ y → y *ℚ u ≤ℚ x *ℚ u
*ℚ-exchanges {u = u} p h = times-exchanges u (difference-nonpos (num-nonpos.1 p)) h

pub +ℚ-*ℚ : (x y z : Fraction) → (x +ℚ y) *ℚ z ≈ℚ x *ℚ z +ℚ y *ℚ z
+ℚ-*ℚ x y z = ≈ℚ-trans (*ℚ-comm (x +ℚ y) z)
    (≈ℚ-trans (*ℚ-+ℚ z x y) (+ℚ-cong (*ℚ-comm z x) (*ℚ-comm z y)))

-- ---- whole numbers

pub wholeℚ-≤ℚ : {a b : ℤ} → (a ≤ℤ b) ↔ (wholeℚ a ≤ℚ wholeℚ b)
unfolding wholeℚ
wholeℚ-≤ℚ {a} {b} = (
  λ h. (≤ℚ-difference (difference a) (difference b)).0 (omega split),
  λ h. omega (split, (≤ℚ-difference (difference a) (difference b)).1 h),
)

pub wholeℚ-+ℚ : (a b : ℤ) → wholeℚ (a +ℤ b) ≈ℚ wholeℚ a +ℚ wholeℚ b
unfolding wholeℚ ◌+ℚ◌
wholeℚ-+ℚ a b = ≈ℚ-difference (difference-add (difference a) (difference b))
    (num-+ℚ (wholeℚ a) (wholeℚ b) (difference a) (difference b)) (omega arith)

pub wholeℚ-*ℚ : (a b : ℤ) → wholeℚ (a *ℤ b) ≈ℚ wholeℚ a *ℚ wholeℚ b
unfolding wholeℚ ◌*ℚ◌
wholeℚ-*ℚ a b = ≈ℚ-difference (difference (a *ℤ b)) (difference (a *ℤ b)) (omega arith)

pub wholeℚ-negℚ : (a : ℤ) → wholeℚ (neg_ℤ a) ≡ negℚ (wholeℚ a)
unfolding wholeℚ negℚ
wholeℚ-negℚ a = refl

-- ---- the product with a whole number

pub scaleℚ-*ℚ : (k : ℤ) (x : Fraction) → scaleℚ k x ≈ℚ x *ℚ wholeℚ k
unfolding scaleℚ ◌*ℚ◌ wholeℚ
scaleℚ-*ℚ k x = ≈ℚ-difference (difference-mul (difference k) (parts x))
    (num-*ℚ x (wholeℚ k) (parts x) (difference k)) (omega arith)

-- a whole number of at least 0 keeps the order, one of at most 0 exchanges it
pub scaleℚ-keeps : {k : ℤ} {x y : Fraction} → pos 0 ≤ℤ k → x ≤ℚ y → scaleℚ k x ≤ℚ scaleℚ k y
scaleℚ-keeps {k} {x} {y} p h =
    ≤ℚ-trans (scaleℚ-*ℚ k x).below (≤ℚ-trans (*ℚ-keeps (wholeℚ-≤ℚ.0 p) h) (scaleℚ-*ℚ k y).above)

pub scaleℚ-exchanges : {k : ℤ} {x y : Fraction} → k ≤ℤ pos 0 → x ≤ℚ y → scaleℚ k y ≤ℚ scaleℚ k x
scaleℚ-exchanges {k} {x} {y} p h =
    ≤ℚ-trans (scaleℚ-*ℚ k y).below (≤ℚ-trans (*ℚ-exchanges (wholeℚ-≤ℚ.0 p) h) (scaleℚ-*ℚ k x).above)

pub scaleℚ-+ℚ : (k : ℤ) (x y : Fraction) → scaleℚ k (x +ℚ y) ≈ℚ scaleℚ k x +ℚ scaleℚ k y
scaleℚ-+ℚ k x y = ≈ℚ-trans (scaleℚ-*ℚ k (x +ℚ y)) (≈ℚ-trans (+ℚ-*ℚ x y (wholeℚ k))
    (+ℚ-cong (≈ℚ-sym (scaleℚ-*ℚ k x)) (≈ℚ-sym (scaleℚ-*ℚ k y))))

-- ---- the fractions that are at least 0, as signed ones

-- the order is the same
pub signed-≤ℚ : {x y : Ratio} → (x ≤/ y) ↔ (signed x ≤ℚ signed y)
unfolding signed
signed-≤ℚ {x} {y} = (λ h. omega split, λ h. omega split)

-- and so are whole numbers, sum, product and quotient
pub signed-whole : (n : ℕ) → signed (whole/ n) ≡ wholeℚ (pos n)
unfolding signed wholeℚ whole/
signed-whole n = refl

pub signed-+ℚ : (x y : Ratio) → signed (x +/ y) ≡ signed x +ℚ signed y
unfolding signed ◌+/◌ ◌+ℚ◌
signed-+ℚ x y = refl

-- a fraction of at least 0 is its distance from 0
pub signed-absolute : {x : Fraction} → wholeℚ (pos 0) ≤ℚ x → signed (absolute x) ≈ℚ x
unfolding signed absolute
signed-absolute {x} h = ≈ℚ-difference (difference-pos (nat_abs x.num)) (difference-nonneg (num-nonneg.1 h))
    (omega arith)

-- ---- the quotient by a positive ratio

-- it keeps the order
pub divideℚ-mono : {x y : Fraction} → x ≤ℚ y → (r : Ratio) (p : 0 < r.num) → divideℚ x r p ≤ℚ divideℚ y r p
unfolding divideℚ
divideℚ-mono {x} {y} h r p = (≤ℚ-difference
    (difference-scale (parts x) r.den) (difference-scale (parts y) r.den)).0
    (omega (arith, mul-le-mul_right (r.den * r.num) (le_parts h)))

-- x/r ≤ z when x ≤ z·r, and z ≤ x/r when z·r ≤ x
pub divideℚ-≤ℚ : {x z : Fraction} (r : Ratio) (p : 0 < r.num) → (x ≤ℚ z *ℚ signed r) ↔ (divideℚ x r p ≤ℚ z)
unfolding divideℚ ◌*ℚ◌ signed
divideℚ-≤ℚ {x} {z} r p = (
  λ h. (≤ℚ-difference (difference-scale (parts x) r.den) (parts z)).0
      (omega (arith, (≤ℚ-difference (parts x) (difference-scale (parts z) r.num)).1 h)),
  λ h. (≤ℚ-difference (parts x) (difference-scale (parts z) r.num)).0
      (omega (arith, (≤ℚ-difference (difference-scale (parts x) r.den) (parts z)).1 h)),
)

pub ≤ℚ-divideℚ : {x z : Fraction} (r : Ratio) (p : 0 < r.num) → (z *ℚ signed r ≤ℚ x) ↔ (z ≤ℚ divideℚ x r p)
unfolding divideℚ ◌*ℚ◌ signed
≤ℚ-divideℚ {x} {z} r p = (
  λ h. (≤ℚ-difference (parts z) (difference-scale (parts x) r.den)).0
      (omega (arith, (≤ℚ-difference (difference-scale (parts z) r.num) (parts x)).1 h)),
  λ h. (≤ℚ-difference (difference-scale (parts z) r.num) (parts x)).0
      (omega (arith, (≤ℚ-difference (parts z) (difference-scale (parts x) r.den)).1 h)),
)

-- ---- the quotient by a positive whole number: that by a ratio over 1

pub quotientℚ-divideℚ : (x : Fraction) (k : ℕ) (p : 0 < k)
    → quotientℚ x k p ≈ℚ divideℚ x (whole/ k) (whole/-positive p)
unfolding quotientℚ divideℚ whole/
quotientℚ-divideℚ x k p = ≈ℚ-difference (parts x) (difference-scale (parts x) 1) (omega arith)

pub quotientℚ-mono : {x y : Fraction} → x ≤ℚ y → (k : ℕ) (p : 0 < k) → quotientℚ x k p ≤ℚ quotientℚ y k p
quotientℚ-mono {x} {y} h k p = ≤ℚ-trans (quotientℚ-divideℚ x k p).below
    (≤ℚ-trans (divideℚ-mono h (whole/ k) (whole/-positive p)) (quotientℚ-divideℚ y k p).above)

-- x/k ≤ z when x ≤ z·k, and z ≤ x/k when z·k ≤ x
pub quotientℚ-≤ℚ : {x z : Fraction} (k : ℕ) (p : 0 < k) → (x ≤ℚ z *ℚ wholeℚ (pos k)) ↔ (quotientℚ x k p ≤ℚ z)
quotientℚ-≤ℚ {x} {z} k p = (
  λ h. ≤ℚ-trans (quotientℚ-divideℚ x k p).below
      ((divideℚ-≤ℚ (whole/ k) (whole/-positive p)).0 (rw signed-whole h)),
  λ h. rw (← signed-whole) ((divideℚ-≤ℚ (whole/ k) (whole/-positive p)).1
      (≤ℚ-trans (quotientℚ-divideℚ x k p).above h)),
)

pub ≤ℚ-quotientℚ : {x z : Fraction} (k : ℕ) (p : 0 < k) → (z *ℚ wholeℚ (pos k) ≤ℚ x) ↔ (z ≤ℚ quotientℚ x k p)
≤ℚ-quotientℚ {x} {z} k p = (
  λ h. ≤ℚ-trans ((≤ℚ-divideℚ (whole/ k) (whole/-positive p)).0 (rw signed-whole h))
      (quotientℚ-divideℚ x k p).above,
  λ h. rw (← signed-whole) ((≤ℚ-divideℚ (whole/ k) (whole/-positive p)).1
      (≤ℚ-trans h (quotientℚ-divideℚ x k p).below)),
)

-- (x/k)·k = x
pub quotientℚ-*ℚ : (x : Fraction) (k : ℕ) (p : 0 < k) → quotientℚ x k p *ℚ wholeℚ (pos k) ≈ℚ x
quotientℚ-*ℚ x k p = ≤ℚ-antisym
    ((≤ℚ-quotientℚ k p).1 (≤ℚ-refl (quotientℚ x k p))) ((quotientℚ-≤ℚ k p).1 (≤ℚ-refl (quotientℚ x k p)))

-- ---- sums of lists

pub signed-sum : (xs : List Ratio) → signed (sum/ xs) ≡ sumℚ (map signed xs)
unfolding sum/ sumℚ
signed-sum [] = signed-whole 0
signed-sum (x ∷ xs) = rw (signed-+ℚ, signed-sum xs)
