-- Bounds on the distance from zero, for overflow: where every operand has a bound, so has the result of an operation,
-- and a result with a bound below 2⁶³ fits a signed 64-bit number.
use Rattle.std.specs.Prelude.{◌≡◌, Bool, true, false, cond, ℕ, ◌+◌, ◌*◌, ◌^◌, ◌/◌, ◌≤◌, ◌<◌, T, ltb, leb, ℤ, pos, negsuc, neg_ℤ, nat_abs, ◌+ℤ◌, ◌-ℤ◌, ◌*ℤ◌, ◌≤ℤ◌}
use Rattle.std.proofs.Common.{mul-le-mul, le_trans, lt_of_mul-lt-mul_right, arith, ltb→lt, leb→le, SFits, to_z, of_z, to_z-of_z}
use Rattle.std.specs.Int.{w64}
use Rattle.number_whole.specs.Parts.{below}
use Rattle.number_whole.proofs.laws.Above.{above}
use Rattle.number_whole.proofs.laws.Split.{split, split-neg, split-add, split-mul, split-abs}
use Rattle.number_whole.specs.Division.{floor_div, ceil_div}
use Rattle.number_whole.proofs.laws.DivisionLaws.{floorℕ-encloses, le-of-mul-lt, floor-within, ceil-within}
use Rattle.number_whole.specs.code.Sizes.{Under, Divides}

pub under-pos : {n k : ℕ} → n ≤ k → Under (pos n) k
under-pos h = record { under = h }

-- at a literal, `under-lit tt`
pub under-lit : {z : ℤ} {k : ℕ} → T (leb (nat_abs z) k) → Under z k
under-lit {z} {k} t = record { under = leb→le (nat_abs z) k t }

-- −k ≤ z ≤ k, there and back
pub under-between : {z : ℤ} {k : ℕ} → neg_ℤ (pos k) ≤ℤ z → z ≤ℤ pos k → Under z k
under-between {z = pos a} {k} l h = record { under = omega split }
under-between {z = negsuc a} {k} l h = record { under = omega (split, split-neg (pos k)) }

pub under_low : {z : ℤ} {k : ℕ} → Under z k → neg_ℤ (pos k) ≤ℤ z
under_low {z} {k} u = omega (split, u.under, split-abs z, split-neg (pos k))

pub under-high : {z : ℤ} {k : ℕ} → Under z k → z ≤ℤ pos k
under-high {z} {k} u = omega (split, u.under, split-abs z)

pub under-weaken : {z : ℤ} {j k : ℕ} → Under z j → j ≤ k → Under z k
under-weaken u h = record { under = le_trans u.under h }

pub under-neg : {z : ℤ} {k : ℕ} → Under z k → Under (neg_ℤ z) k
under-neg {z} {k} u =
    omega (arith, split-abs z, split-abs (neg_ℤ z), split-neg z)

-- |p − n| ≤ p + n
abs-parts : (z : ℤ) (p n : ℕ) → above z + n ≡ below z + p → nat_abs z ≤ p + n
abs-parts (pos a) p n e = omega arith
abs-parts (negsuc a) p n e = omega arith

pub under-add : {a b : ℤ} {j k : ℕ} → Under a j → Under b k → Under (a +ℤ b) (j + k)
under-add {a} {b} {j} {k} u v =
    let h = abs-parts (a +ℤ b) (above a + above b) (below a + below b) (split-add a b) in
    omega (arith, split-abs a, split-abs b)

pub under-sub : {a b : ℤ} {j k : ℕ} → Under a j → Under b k → Under (a -ℤ b) (j + k)
under-sub u v = under-add u (under-neg v)

pub under-mul : {a b : ℤ} {j k : ℕ} → Under a j → Under b k → Under (a *ℤ b) (j * k)
under-mul {a} {b} {j} {k} u v =
    let p = above a * above b + below a * below b in
    let n = above a * below b + below a * above b in
    let h = abs-parts (a *ℤ b) p n (split-mul a b) in
    omega (arith, rw (split-abs a, split-abs b) at (mul-le-mul u.under v.under))

-- rounding does not lead away from zero
pub under-floor : {z : ℤ} {k : ℕ} (m : ℕ) → Under z k → Under (floor_div z m) k
under-floor {z} {k} m u = omega (arith, split-abs z, split-abs (floor_div z m), floor-within z m)

pub under-ceil : {z : ℤ} {k : ℕ} (m : ℕ) → Under z k → Under (ceil_div z m) k
under-ceil {z} {k} m u = omega (arith, split-abs z, split-abs (ceil_div z m), ceil-within z m)

-- and a divided bound, rounded up: |z| ≤ k ≤ q·m gives q
pub under-floor-to : (q : ℕ) {z : ℤ} {k : ℕ} {m : ℕ} → 0 < m → k ≤ q * m → Under z k → Under (floor_div z m) q
unfolding floor_div
under-floor-to q {z = pos a} {k} {m} h l u =
    record { under = le-of-mul-lt (a / m) q m (omega (arith, floorℕ-encloses a h)) }
under-floor-to q {z = negsuc a} {k} {m} h l u =
    record { under = lt_of_mul-lt-mul_right m (omega (arith, floorℕ-encloses a h)) }

pub under-ceil-to : (q : ℕ) {z : ℤ} {k : ℕ} {m : ℕ} → 0 < m → k ≤ q * m → Under z k → Under (ceil_div z m) q
unfolding ceil_div
under-ceil-to q h l u = under-neg (under-floor-to q h l (under-neg u))

-- one of two, each with the bound
pub under-cond : {a b : ℤ} {k : ℕ} (c : Bool) → Under a k → Under b k → Under (cond c a b) k
under-cond true u v = u
under-cond false u v = v

-- ---- signed 64-bit numbers

-- −2⁶³ ≤ z < 2⁶³
pub fits-range : {z : ℤ} → SFits w64 z → (above z < 2 ^ 63) × (below z ≤ 2 ^ 63)
fits-range {z = pos n} f = (f.sfits, omega arith)
fits-range {z = negsuc n} f = (omega arith, f.sfits)

-- p − n fits where p < n + 2⁶³ and n ≤ p + 2⁶³
pub fits-parts : (z : ℤ) (p n : ℕ) → above z + n ≡ below z + p → p < n + 2 ^ 63 → n ≤ p + 2 ^ 63 → SFits w64 z
fits-parts (pos a) p n e h k = record { sfits = omega arith }
fits-parts (negsuc a) p n e h k = record { sfits = omega arith }

-- what is no further from zero, on either side, than a number that fits
pub fits-within : (y : ℤ) {z : ℤ} → (above y ≤ above z) × (below y ≤ below z) → SFits w64 z → SFits w64 y
fits-within y w f = let r = fits-range f in fits-parts y (above y) (below y) (omega arith) (omega arith) (omega arith)

pub fits-floor : {z : ℤ} (m : ℕ) → SFits w64 z → SFits w64 (floor_div z m)
fits-floor {z} m f = fits-within (floor_div z m) (floor-within z m) f

pub fits-ceil : {z : ℤ} (m : ℕ) → SFits w64 z → SFits w64 (ceil_div z m)
fits-ceil {z} m f = fits-within (ceil_div z m) (ceil-within z m) f

-- a number under a bound below 2⁶³ fits; at a numeral bound, `fits u tt`
pub fits : {z : ℤ} {k : ℕ} → Under z k → T (ltb k (2 ^ 63)) → SFits w64 z
fits {z} {k} u t = fits-parts z (above z) (below z) (omega arith)
    (omega (arith, u.under, split-abs z, ltb→lt k (2 ^ 63) t))
    (omega (arith, u.under, split-abs z, ltb→lt k (2 ^ 63) t))

-- a number as the code reads it from its bits
abbrev pub bits : ℤ → ℤ
bits z = to_z w64 (of_z w64 z)

-- is the number itself
pub back : {z : ℤ} {k : ℕ} → Under z k → T (ltb k (2 ^ 63)) → bits z ≡ z
back u t = to_z-of_z (fits u t)

-- ---- what a division asks, at numerals: `divides tt u tt`
pub divides : {z : ℤ} {d k : ℕ} → T (ltb 1 d) → Under z (k * d) → T (leb (k * d + d) (2 ^ 63)) → Divides z d k
divides {z} {d} {k} s u r = record { some = ltb→lt 1 d s; within = u; room = leb→le (k * d + d) (2 ^ 63) r }
