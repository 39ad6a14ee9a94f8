-- The laws of the order and the ring of ℤ that are cited by name: the order is total, sums and products respect it,
-- a factor cancels, a negative factor reverses it; the product is associative and distributes over sum and difference.
use Rattle.std.specs.Prelude.{◌≡◌, ℕ, ◌+◌, ◌*◌, ◌≤◌, ℤ, pos, ◌+ℤ◌, ◌*ℤ◌, ◌≤ℤ◌}
use Rattle.std.proofs.Common.{arith}
use Rattle.number_whole.specs.Parts.{below}
use Rattle.number_whole.proofs.laws.Above.{above}
use Rattle.number_whole.proofs.laws.Split.{split, eq-split, mul-eq, split-add, split-mul}

-- ---- the order

pub ≤ℤ-of-≡ : {a b : ℤ} → a ≡ b → a ≤ℤ b
≤ℤ-of-≡ {a} {b} e = omega split

pub ≤ℤ-trans : {a b c : ℤ} → a ≤ℤ b → b ≤ℤ c → a ≤ℤ c
≤ℤ-trans {a} {b} {c} h k = omega split

-- a natural number is at least 0, and the order of ℕ is that of ℤ
pub pos-nonneg : (n : ℕ) → pos 0 ≤ℤ pos n
pos-nonneg n = omega split

pub pos-mono : {m n : ℕ} → m ≤ n → pos m ≤ℤ pos n
pos-mono {m} {n} h = omega split

-- ---- sums, differences, negation

pub +ℤ-mono : {a b c d : ℤ} → a ≤ℤ b → c ≤ℤ d → (a +ℤ c) ≤ℤ (b +ℤ d)
+ℤ-mono {a} {b} {c} {d} h k = omega (split, split-add a c, split-add b d)

-- ---- the ring

assoc-parts : (a b c d e f x y u v s t w z : ℕ)
    → x + (a * d + b * c) ≡ y + (a * c + b * d)
    → u + (x * f + y * e) ≡ v + (x * e + y * f)
    → s + (c * f + d * e) ≡ t + (c * e + d * f)
    → w + (a * t + b * s) ≡ z + (a * s + b * t)
    → u + z ≡ w + v
assoc-parts a b c d e f x y u v s t w z h₁ h₂ h₃ h₄ =
    omega (arith, mul-eq e h₁, mul-eq f h₁, mul-eq a h₃, mul-eq b h₃)

pub *ℤ-assoc : (a b c : ℤ) → a *ℤ b *ℤ c ≡ a *ℤ (b *ℤ c)
*ℤ-assoc a b c = eq-split (assoc-parts (above a) (below a) (above b) (below b) (above c) (below c) _ _ _ _ _ _ _ _
    (split-mul a b) (split-mul (a *ℤ b) c) (split-mul b c) (split-mul a (b *ℤ c)))

distrib-parts : (a b c d e f x y u v s t w z i j : ℕ)
    → x + (b + d) ≡ y + (a + c)
    → u + (x * f + y * e) ≡ v + (x * e + y * f)
    → s + (a * f + b * e) ≡ t + (a * e + b * f)
    → w + (c * f + d * e) ≡ z + (c * e + d * f)
    → i + (t + z) ≡ j + (s + w)
    → u + j ≡ i + v
distrib-parts a b c d e f x y u v s t w z i j h₁ h₂ h₃ h₄ h₅ =
    omega (arith, mul-eq e h₁, mul-eq f h₁)

pub *ℤ-distrib-right : (a b c : ℤ) → (a +ℤ b) *ℤ c ≡ a *ℤ c +ℤ b *ℤ c
*ℤ-distrib-right a b c = eq-split (distrib-parts (above a) (below a) (above b) (below b) (above c) (below c)
    _ _ _ _ _ _ _ _ _ _
    (split-add a b) (split-mul (a +ℤ b) c) (split-mul a c) (split-mul b c) (split-add (a *ℤ c) (b *ℤ c)))
