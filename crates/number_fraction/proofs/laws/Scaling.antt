-- A whole multiple of a fraction: of a sum, of a quotient and of another multiple.
use Rattle.std.specs.Prelude.{◌≡◌, refl, ℕ, ◌<◌, ℤ, pos, ◌+ℤ◌, ◌*ℤ◌}
use Rattle.std.proofs.Common.{ap, arith}
use Rattle.number_whole.proofs.laws.Difference.{difference, difference-pos, difference-add, difference-mul, difference-eq}
use Rattle.number_fraction.specs.Fraction.{Fraction, wholeℚ, ◌+ℚ◌, scaleℚ, quotientℚ}

sum-parts : (s a b : ℤ) (k m : ℕ) → (s *ℤ a) *ℤ pos k +ℤ (s *ℤ b) *ℤ pos m ≡ s *ℤ (a *ℤ pos k +ℤ b *ℤ pos m)
sum-parts s a b k m =
    let z = difference s in
    let x = difference a in
    let y = difference b in
    let u = difference-pos k in
    let v = difference-pos m in
    difference-eq (difference-add (difference-mul (difference-mul z x) u) (difference-mul (difference-mul z y) v))
    (difference-mul z (difference-add (difference-mul x u) (difference-mul y v))) (omega arith)

swap-parts : (s c a : ℤ) → c *ℤ (s *ℤ a) ≡ s *ℤ (c *ℤ a)
swap-parts s c a =
    let z = difference s in
    let x = difference c in
    let y = difference a in
    difference-eq (difference-mul x (difference-mul z y)) (difference-mul z (difference-mul x y)) (omega arith)

-- s·x + s·y = s·(x + y)
pub scaleℚ-+ℚ : (s : ℤ) (x y : Fraction) → scaleℚ s x +ℚ scaleℚ s y ≡ scaleℚ s (x +ℚ y)
unfolding scaleℚ ◌+ℚ◌
scaleℚ-+ℚ s x y =
    ap (λ (n : ℤ). record { num = n; den = (x +ℚ y).den; positive = (x +ℚ y).positive }) (sum-parts s x.num y.num y.den x.den)

-- c·(s·x) = s·(c·x)
pub scaleℚ-swap : (s c : ℤ) (x : Fraction) → scaleℚ c (scaleℚ s x) ≡ scaleℚ s (scaleℚ c x)
unfolding scaleℚ
scaleℚ-swap s c x = ap (λ (n : ℤ). record { num = n; den = x.den; positive = x.positive }) (swap-parts s c x.num)

-- s·c over 1, and s·x over m
pub scaleℚ-whole : (s c : ℤ) → wholeℚ (s *ℤ c) ≡ scaleℚ s (wholeℚ c)
unfolding scaleℚ wholeℚ
scaleℚ-whole s c = refl

pub scaleℚ-quotient : (s : ℤ) (x : Fraction) (m : ℕ) (p : 0 < m) → quotientℚ (scaleℚ s x) m p ≡ scaleℚ s (quotientℚ x m p)
unfolding scaleℚ quotientℚ
scaleℚ-quotient s x m p = refl
