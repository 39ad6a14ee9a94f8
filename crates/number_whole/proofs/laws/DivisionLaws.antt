-- What rounded division means: the multiple of the quotient encloses the number within one divisor, and no other
-- quotient does; rounding respects the order, is exact on multiples, and the two directions differ by at most 1.
use Rattle.std.specs.Prelude.{◌≡◌, ℕ, suc, ◌+◌, ◌*◌, ◌-◌, ◌/◌, ◌≤◌, ◌<◌, ℤ, pos, negsuc, neg_ℤ, ◌+ℤ◌, ◌*ℤ◌, ◌≤ℤ◌}
use Rattle.std.proofs.Common.{sym, suc-le-suc, le_antisymm, lt_of_mul-lt-mul_right, div-mul-le_self, div-le_self, le_refl, arith}
use Rattle.std.proofs.Math.Nat.{lt-div-mul-add}
use Rattle.number_whole.specs.Parts.{below}
use Rattle.number_whole.proofs.laws.Above.{above}
use Rattle.number_whole.proofs.laws.Split.{split, split-neg, split-add, split-scale, le_split}
use Rattle.number_whole.proofs.laws.Order.{≤ℤ-trans}
use Rattle.number_whole.specs.Division.{floor_div, ceil_div, ceil_div_ℕ}

-- ---- natural numbers

-- q·m ≤ a < q·m + m for q = a / m rounded down
pub floorℕ-encloses : (a : ℕ) {m : ℕ} → 0 < m → (a / m * m ≤ a) × (a < a / m * m + m)
floorℕ-encloses a {m} h = (div-mul-le_self a m, lt-div-mul-add h)

-- a ≤ q·m < a + m for q = a / m rounded up
pub ceilℕ-encloses : (a : ℕ) {m : ℕ} → 0 < m → (a ≤ ceil_div_ℕ a m * m) × (ceil_div_ℕ a m * m < a + m)
unfolding ceil_div_ℕ
ceilℕ-encloses a {m} h =
    let e = floorℕ-encloses (a + (m - 1)) h in
    (omega arith, omega arith)

-- a·m < b·m + m only where a ≤ b
pub le-of-mul-lt : (a b m : ℕ) → a * m < b * m + m → a ≤ b
le-of-mul-lt a b m h = let l : a < suc b = lt_of_mul-lt-mul_right m (omega arith) in omega arith

-- the quotient rounded down is the greatest whose multiple is at most a
pub floorℕ-greatest : (q a : ℕ) {m : ℕ} → 0 < m → q * m ≤ a → q ≤ a / m
floorℕ-greatest q a {m} h k = le-of-mul-lt q (a / m) m (omega (arith, floorℕ-encloses a h))

-- the quotient rounded up is the least whose multiple is at least a
pub ceilℕ-least : (q a : ℕ) {m : ℕ} → 0 < m → a ≤ q * m → ceil_div_ℕ a m ≤ q
ceilℕ-least q a {m} h k = le-of-mul-lt (ceil_div_ℕ a m) q m (omega (arith, ceilℕ-encloses a h))

-- no other quotient encloses a
pub floorℕ-unique : (q a : ℕ) {m : ℕ} → 0 < m → q * m ≤ a → a < q * m + m → q ≡ a / m
floorℕ-unique q a {m} h k l =
    le_antisymm (floorℕ-greatest q a h k) (le-of-mul-lt (a / m) q m (omega (arith, floorℕ-encloses a h)))

pub ceilℕ-unique : (q a : ℕ) {m : ℕ} → 0 < m → a ≤ q * m → q * m < a + m → q ≡ ceil_div_ℕ a m
ceilℕ-unique q a {m} h k l =
    le_antisymm (le-of-mul-lt q (ceil_div_ℕ a m) m (omega (arith, ceilℕ-encloses a h))) (ceilℕ-least q a h k)

-- exact on multiples, and the two directions differ by at most 1
pub floorℕ-exact : (q : ℕ) {m : ℕ} → 0 < m → q * m / m ≡ q
floorℕ-exact q {m} h = sym (floorℕ-unique q (q * m) h (omega arith) (omega arith))

pub ceilℕ-exact : (q : ℕ) {m : ℕ} → 0 < m → ceil_div_ℕ (q * m) m ≡ q
ceilℕ-exact q {m} h = sym (ceilℕ-unique q (q * m) h (omega arith) (omega arith))

-- ---- whole numbers, by their parts above and below zero (for `omega`)

-- q·m ≤ z < q·m + m for q = z / m rounded down
pub split-floor : (z : ℤ) {m : ℕ} → 0 < m
    → (above (floor_div z m) * m + below z ≤ above z + below (floor_div z m) * m)
    × (above z + below (floor_div z m) * m < below z + above (floor_div z m) * m + m)
unfolding floor_div
split-floor (pos a) {m} h = let e = floorℕ-encloses a h in omega arith
split-floor (negsuc a) {m} h = let e = floorℕ-encloses a h in omega arith

-- z ≤ q·m < z + m for q = z / m rounded up
pub split-ceil : (z : ℤ) {m : ℕ} → 0 < m
    → (above z + below (ceil_div z m) * m ≤ below z + above (ceil_div z m) * m)
    × (above (ceil_div z m) * m + below z < above z + below (ceil_div z m) * m + m)
unfolding ceil_div
split-ceil z {m} h =
    let e = split-neg z in
    let f = split-neg (floor_div (neg_ℤ z) m) in
    rw (f.0, f.1) (omega (arith, rw (e.0, e.1) at (split-floor (neg_ℤ z) h)))

-- neither is further from zero than z, on either side, whatever m is
pub floor-within : (z : ℤ) (m : ℕ) → (above (floor_div z m) ≤ above z) × (below (floor_div z m) ≤ below z)
unfolding floor_div
floor-within (pos a) m = (div-le_self a m, le_refl 0)
floor-within (negsuc a) m = (le_refl 0, suc-le-suc (div-le_self a m))

pub ceil-within : (z : ℤ) (m : ℕ) → (above (ceil_div z m) ≤ above z) × (below (ceil_div z m) ≤ below z)
unfolding ceil_div
ceil-within z m = omega (arith, split-neg z, split-neg (floor_div (neg_ℤ z) m), floor-within (neg_ℤ z) m)

-- ---- whole numbers, in ℤ

-- floor: q·m ≤ z < q·m + m
pub floor-below : (z : ℤ) {m : ℕ} → 0 < m → (floor_div z m *ℤ pos m) ≤ℤ z
floor-below z {m} h = omega (split, split-scale (floor_div z m) m, split-floor z h)

-- ceiling: z ≤ q·m < z + m
pub ceil-above : (z : ℤ) {m : ℕ} → 0 < m → z ≤ℤ (ceil_div z m *ℤ pos m)
ceil-above z {m} h = omega (split, split-scale (ceil_div z m) m, split-ceil z h)

-- a·m < b·m + m only where a ≤ b
pub at_most : (a b : ℤ) (m : ℕ) → above a * m + below b * m < above b * m + below a * m + m → a ≤ℤ b
at_most a b m h = le_split (le-of-mul-lt (above a + below b) (above b + below a) m (omega arith))

-- the floor is the greatest quotient whose multiple is at most z, the ceiling the least whose multiple is at least z
pub floor-greatest : (q z : ℤ) {m : ℕ} → 0 < m → (q *ℤ pos m) ≤ℤ z → q ≤ℤ floor_div z m
floor-greatest q z {m} h k = at_most q (floor_div z m) m (omega (split, split-scale q m, split-floor z h))

-- rounding respects the order
pub floor-mono : {a b : ℤ} {m : ℕ} → 0 < m → a ≤ℤ b → floor_div a m ≤ℤ floor_div b m
floor-mono {a} {b} {m} h k = floor-greatest (floor_div a m) b h (≤ℤ-trans (floor-below a h) k)

-- the ceiling is the floor or one more
pub floor-le-ceil : (z : ℤ) {m : ℕ} → 0 < m → floor_div z m ≤ℤ ceil_div z m
floor-le-ceil z {m} h = at_most (floor_div z m) (ceil_div z m) m (omega (split, split-floor z h, split-ceil z h))

-- the width of a rounded interval: (⌈b/m⌉ − ⌊a/m⌋)·m ≤ (b − a) + 2·(m − 1)
pub rounded-width : (a b : ℤ) {m : ℕ} → 0 < m
    → (ceil_div b m *ℤ pos m +ℤ a +ℤ pos 2) ≤ℤ (floor_div a m *ℤ pos m +ℤ b +ℤ pos (2 * m))
rounded-width a b {m} h =
    let p = ceil_div b m *ℤ pos m in
    let q = floor_div a m *ℤ pos m in
    omega (
      split,
      split-scale (ceil_div b m) m,
      split-scale (floor_div a m) m,
      split-ceil b h,
      split-floor a h,
      split-add p a,
      split-add (p +ℤ a) (pos 2),
      split-add q b,
      split-add (q +ℤ b) (pos (2 * m)),
    )
