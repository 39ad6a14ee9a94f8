-- A whole number as a difference of two natural numbers: z = above z − below z, and one of the two is 0.
-- Each operation and each order of ℤ is stated by these two parts, without subtraction. So `omega (split, ..)` proves
-- linear facts of ℤ: `split` reads the hypotheses and the goal, and the list adds a law for each operation in them, as
-- `split-add a b` for a +ℤ b. Products are polynomials of the parts: `split-mul`, or `split-scale` by a natural number.
use Rattle.std.specs.Prelude.{◌≡◌, refl, Bool, true, false, not, cond, ℕ, zero, suc, ◌+◌, ◌*◌, ◌-◌, ◌≤◌, ◌<◌, T, ltb, ℤ, pos, negsuc, neg_ℤ, nat_abs, ◌+ℤ◌, ◌-ℤ◌, ◌*ℤ◌, ◌≤ℤ◌, ◌<ℤ◌}
use Rattle.std.proofs.Common.{ap, subst, arith, leb→le, le→leb, ltb→lt, lt→ltb, nltb→le}
use Rattle.std.proofs.Math.IntN.{sub_ℕ}
use Rattle.std.specs.Int.Signed.{le_z, lt_z}
use Rattle.number_whole.specs.Parts.{below}
use Rattle.number_whole.proofs.laws.Above.{above}

-- ---- the operations

pub split-abs : (z : ℤ) → nat_abs z ≡ above z + below z
split-abs (pos n) = omega arith
split-abs (negsuc n) = omega arith

sub_by : (a b : ℕ) (c : Bool) → (T c → a < b) → (T (not c) → b ≤ a)
    → above (cond c (negsuc (b - suc a)) (pos (a - b))) + b ≡ below (cond c (negsuc (b - suc a)) (pos (a - b))) + a
sub_by a b true f g = omega (arith, f tt)
sub_by a b false f g = omega (arith, g tt)

pub split-subℕ : (a b : ℕ) → above (sub_ℕ a b) + b ≡ below (sub_ℕ a b) + a
split-subℕ a b = sub_by a b (ltb a b) (ltb→lt a b) (nltb→le a b)

pub split-neg : (z : ℤ) → (above (neg_ℤ z) ≡ below z) × (below (neg_ℤ z) ≡ above z)
split-neg (pos zero) = (refl, refl)
split-neg (pos (suc n)) = (refl, refl)
split-neg (negsuc n) = (refl, refl)

pub split-add : (a b : ℤ) → above (a +ℤ b) + (below a + below b) ≡ below (a +ℤ b) + (above a + above b)
split-add (pos a) (pos b) = omega arith
split-add (pos a) (negsuc b) = omega (arith, split-subℕ a (suc b))
split-add (negsuc a) (pos b) = omega (arith, split-subℕ b (suc a))
split-add (negsuc a) (negsuc b) = omega arith

pub split-sub : (a b : ℤ) → above (a -ℤ b) + (below a + above b) ≡ below (a -ℤ b) + (above a + below b)
split-sub a b = omega (arith, split-add a (neg_ℤ b), split-neg b)

pub split-mul : (a b : ℤ) → above (a *ℤ b) + (above a * below b + below a * above b)
    ≡ below (a *ℤ b) + (above a * above b + below a * below b)
split-mul (pos a) (pos b) = omega arith
split-mul (pos a) (negsuc b) = omega (arith, split-neg (pos (a * suc b)))
split-mul (negsuc a) (pos b) = omega (arith, split-neg (pos (suc a * b)))
split-mul (negsuc a) (negsuc b) = omega arith

-- by a natural number, on either side, each part is multiplied
pub split-scale : (a : ℤ) (k : ℕ) → (above (a *ℤ pos k) ≡ above a * k) × (below (a *ℤ pos k) ≡ below a * k)
split-scale (pos a) k = (refl, omega arith)
split-scale (negsuc a) k = (omega (arith, split-neg (pos (suc a * k))), omega (arith, split-neg (pos (suc a * k))))

pub split-scale-left : (k : ℕ) (a : ℤ) → (above (pos k *ℤ a) ≡ k * above a) × (below (pos k *ℤ a) ≡ k * below a)
split-scale-left k (pos a) = (refl, omega arith)
split-scale-left k (negsuc a) = (omega (arith, split-neg (pos (k * suc a))), omega (arith, split-neg (pos (k * suc a))))

-- ---- the orders and equality, from and to their parts

le-to : (a b : ℤ) → T (le_z a b) → above a + below b ≤ above b + below a
le-to (pos a) (pos b) t = omega (arith, leb→le a b t)
le-to (pos a) (negsuc b) t = absurd t
le-to (negsuc a) (pos b) t = omega arith
le-to (negsuc a) (negsuc b) t = omega (arith, leb→le b a t)

le_from : (a b : ℤ) → above a + below b ≤ above b + below a → T (le_z a b)
le_from (pos a) (pos b) h = le→leb a b (omega arith)
le_from (pos a) (negsuc b) h = absurd (omega arith)
le_from (negsuc a) (pos b) h = tt
le_from (negsuc a) (negsuc b) h = le→leb b a (omega arith)

lt-to : (a b : ℤ) → T (lt_z a b) → above a + below b < above b + below a
lt-to (pos a) (pos b) t = omega (arith, ltb→lt a b t)
lt-to (pos a) (negsuc b) t = absurd t
lt-to (negsuc a) (pos b) t = omega arith
lt-to (negsuc a) (negsuc b) t = omega (arith, ltb→lt b a t)

lt-from : (a b : ℤ) → above a + below b < above b + below a → T (lt_z a b)
lt-from (pos a) (pos b) h = lt→ltb a b (omega arith)
lt-from (pos a) (negsuc b) h = absurd (omega arith)
lt-from (negsuc a) (pos b) h = tt
lt-from (negsuc a) (negsuc b) h = lt→ltb b a (omega arith)

pub split-le : {a b : ℤ} → a ≤ℤ b → above a + below b ≤ above b + below a
split-le {a} {b} h = le-to a b h.le

pub le_split : {a b : ℤ} → above a + below b ≤ above b + below a → a ≤ℤ b
le_split {a} {b} h = record { le = le_from a b h }

pub split-lt : {a b : ℤ} → a <ℤ b → above a + below b < above b + below a
split-lt {a} {b} h = lt-to a b h.lt

pub lt-split : {a b : ℤ} → above a + below b < above b + below a → a <ℤ b
lt-split {a} {b} h = record { lt = lt-from a b h }

pub split-eq : {a b : ℤ} → a ≡ b → above a + below b ≡ above b + below a
split-eq {a} {b} e = subst (λ (z : ℤ). above a + below z ≡ above z + below a) e refl

pub eq-split : {a b : ℤ} → above a + below b ≡ above b + below a → a ≡ b
eq-split {a = pos a} {b = pos b} h = ap pos (omega arith)
eq-split {a = pos a} {b = negsuc b} h = absurd (omega arith)
eq-split {a = negsuc a} {b = pos b} h = absurd (omega arith)
eq-split {a = negsuc a} {b = negsuc b} h = ap negsuc (omega arith)

pub ruleset split = (arith, split-le, le_split, split-lt, lt-split, split-eq, eq-split)

-- an equation times a factor, for the list of `omega`
pub mul-eq : {x y : ℕ} (k : ℕ) → x ≡ y → x * k ≡ y * k
mul-eq k e = ap (λ (n : ℕ). n * k) e
