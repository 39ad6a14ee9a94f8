-- A whole number as a difference of two natural numbers, in any way: z = p − n. Sums, products and negations of such
-- differences are again differences, so an order of signed fractions is one polynomial inequality over ℕ.
use Rattle.std.specs.Prelude.{◌≡◌, ◌↔◌, ℕ, ◌+◌, ◌*◌, ◌≤◌, ℤ, pos, negsuc, neg_ℤ, nat_abs, ◌+ℤ◌, ◌*ℤ◌, ◌≤ℤ◌}
use Rattle.std.proofs.Common.{ap, arith}
use Rattle.number_whole.specs.Parts.{below}
use Rattle.number_whole.proofs.laws.Above.{above}
use Rattle.number_whole.proofs.laws.Split.{split, split-add, split-neg, split-mul, split-scale}

-- z = p − n
pub record Difference (z : ℤ) (p n : ℕ) : Type 0 where
  pub parts : above z + n ≡ below z + p

-- z is the difference of its parts above and below zero
pub difference : (z : ℤ) → Difference z (above z) (below z)
difference z = omega arith

pub difference-pos : (k : ℕ) → Difference (pos k) k 0
difference-pos k = omega arith

-- a number of at least 0 needs no second part, one of at most 0 no first part
pub difference-nonneg : {z : ℤ} → pos 0 ≤ℤ z → Difference z (nat_abs z) 0
difference-nonneg {z = pos n} h = omega arith
difference-nonneg {z = negsuc n} h = absurd h.le

pub difference-nonpos : {z : ℤ} → z ≤ℤ pos 0 → Difference z 0 (nat_abs z)
difference-nonpos {z = pos n} h = omega split
difference-nonpos {z = negsuc n} h = omega arith

pub difference-neg : {a : ℤ} {p n : ℕ} → Difference a p n → Difference (neg_ℤ a) n p
difference-neg {a} d = omega (arith, split-neg a)

pub difference-add : {a b : ℤ} {p n q m : ℕ} → Difference a p n → Difference b q m → Difference (a +ℤ b) (p + q) (n + m)
difference-add {a} {b} d e = omega (arith, split-add a b)

pub difference-scale : {a : ℤ} {p n : ℕ} → Difference a p n → (k : ℕ) → Difference (a *ℤ pos k) (p * k) (n * k)
difference-scale {a} d k = omega (arith, split-scale a k, ap (λ (m : ℕ). m * k) d.parts)

pub difference-mul : {a b : ℤ} {p n q m : ℕ} → Difference a p n → Difference b q m
    → Difference (a *ℤ b) (p * q + n * m) (p * m + n * q)
difference-mul {a} {b} {p} {n} d e = omega (
  arith,
  split-mul a b,
  ap (λ (k : ℕ). k * above b) d.parts,
  ap (λ (k : ℕ). k * below b) d.parts,
  ap (λ (k : ℕ). k * p) e.parts,
  ap (λ (k : ℕ). k * n) e.parts,
)

-- p − n ≤ q − m when p + m ≤ q + n, and the like for less
pub difference-le : {a b : ℤ} {p n q m : ℕ} → Difference a p n → Difference b q m → (p + m ≤ q + n) ↔ (a ≤ℤ b)
difference-le d e = (λ h. omega split, λ h. omega split)

-- p − n = q − m when p + m = q + n
pub difference-eq : {a b : ℤ} {p n q m : ℕ} → Difference a p n → Difference b q m → p + m ≡ q + n → a ≡ b
difference-eq d e h = omega split
