-- The exponential on a grid holds every order of the exact one: its lower end is at most every order's upper end, and its
-- upper end at least every order's lower end.
use Rattle.std.specs.Prelude.{◌≡◌, ℕ, zero, suc, ◌+◌, ◌*◌, ◌/◌, ◌%◌, ◌≤◌, ◌<◌, length}
use Rattle.std.proofs.Common.{ap, subst, mul-le-mul_left, mul-le-mul_right, mul-le-mul, le_of_mul-le-mul_right, mul-pos, div-mul-le_self, mod-lt, le_of_lt, le_trans, div-lt_iff_lt-mul, arith, lt-ltb, le-ltb}
use Rattle.std.proofs.Math.Nat.{div-add-mod'}
use Rattle.std.proofs.Math.Decide.{dec_lt}
use Rattle.number_whole.proofs.laws.DivisionLaws.{ceilℕ-encloses}
use Rattle.number_taylor.specs.Taylor.{taylor_den, taylor_num, stretched_den, stretched_num}
use Rattle.number_taylor.specs.Positive.{taylor_den-positive, stretched_num-positive}
use Rattle.number_taylor.proofs.laws.Sums.{sum-monotone, sum-grows}
use Rattle.number_taylor.proofs.laws.Stretched.{sum-below-stretched}
use Rattle.number_taylor.proofs.laws.Products.{sum-of-sum, product-of-sums}
use Rattle.number_exponential.specs.Grid.{Grid}
use Rattle.number_exponential.specs.Exponential.{step, cutoff_units, sum_lower, sum_upper, constant_lower, constant_upper, exp_lower, exp_upper}
use Rattle.number_exponential.proofs.laws.Facts.{Sound}
use Rattle.number_exponential.proofs.laws.SumLaws.{sum-lower, sum-upper}

-- ---- what stands of z below the cut-off: n steps and f units

factor-positive : (a b u : ℕ) → a * b ≡ u → 0 < u → 0 < b
factor-positive a zero u e h = omega arith
factor-positive a (suc b) u e h = omega arith

factor-small : (a b u : ℕ) → a * b ≡ u → 0 < a → b ≤ u
factor-small zero b u e h = omega arith
factor-small (suc a) b u e h = omega arith

module _ (g : Grid) (s : Sound g) where
  pub step-positive : 0 < step g
  step-positive = factor-positive g.steps (step g) g.unit s.whole-step g.positive

  pub rest-small : (z : ℕ) → z % step g ≤ g.unit
  rest-small z =
      le_trans (le_of_lt (mod-lt z step-positive)) (factor-small g.steps (step g) g.unit s.whole-step s.steps-positive)

  -- the steps of z as a fraction of the unit
  pub steps-scale : (n : ℕ) → n * step g * g.steps ≡ n * g.unit
  steps-scale n = omega (arith, ap (λ (x : ℕ). n * x) s.whole-step)

  pub steps-below : (z : ℕ) → z < cutoff_units g → z / step g < length g.constants
  steps-below z l =
      (div-lt_iff_lt-mul step-positive).1
      (omega (arith, ap (λ (x : ℕ). x * step g) s.constants-all, ap (λ (x : ℕ). g.cutoff * x) s.whole-step))

-- ---- the constants at every order

lower-constant-algebra : (c U S Q n d n' d' : ℕ) → 0 < S → 0 < d → c * S ≤ U * Q → n * Q ≤ S * d → n' * d ≤ n * d' → c * n' ≤ U * d'
lower-constant-algebra c U S Q n d n' d' p q h k l =
    let a : c * n ≤ U * d = le_of_mul-le-mul_right {k = S} (omega (arith, mul-le-mul_right n h, mul-le-mul_left U k)) p in
    le_of_mul-le-mul_right {k = d} (omega (arith, mul-le-mul_left c l, mul-le-mul_right d' a)) q

upper-constant-algebra : (C U n d n' d' : ℕ) → 0 < d → U * d ≤ C * n → n * d' ≤ n' * d → U * d' ≤ C * n'
upper-constant-algebra C U n d n' d' p h k =
    le_of_mul-le-mul_right {k = d} (omega (arith, mul-le-mul_left C k, mul-le-mul_right d' h)) p

module _ (g : Grid) (s : Sound g) (n : ℕ) (l : n < length g.constants) where
  pub constant-lower : (j : ℕ)
      → constant_lower g n * taylor_num (n * step g) g.unit j ≤ g.unit * taylor_den g.unit j
  constant-lower j =
      lower-constant-algebra _ _ _ _ _ (taylor_den g.steps j) _ _
      (stretched_num-positive n g.steps s.order s.steps-positive) (taylor_den-positive g.steps j s.steps-positive)
      (s.constant-below n l) (sum-below-stretched n g.steps s.order j s.steps-positive)
      (sum-monotone (n * step g) g.unit n g.steps j (omega (arith, steps-scale g s n)))

  pub constant-upper : g.unit * taylor_den g.unit s.order ≤ constant_upper g n * taylor_num (n * step g) g.unit s.order
  constant-upper =
      upper-constant-algebra _ _ _ _ _ _ (taylor_den-positive g.steps s.order s.steps-positive) (s.constant-above n l)
      (sum-monotone n g.steps (n * step g) g.unit s.order (omega (arith, steps-scale g s n)))

-- ---- the product of a sum and a constant

-- lo·U ≤ a·c, a·x ≤ U·d, c·y ≤ U·d and m·d ≤ y·x give lo·m ≤ U·d
lower-product : (U lo a c x y d m : ℕ) → 0 < U → 0 < d → lo * U ≤ a * c → a * x ≤ U * d → c * y ≤ U * d → m * d ≤ y * x
    → lo * m ≤ U * d
lower-product U lo a c x y d m p q h k l e =
    let A : lo * (y * x) ≤ U * (d * d) =
    le_of_mul-le-mul_right {k = U} (omega (arith, mul-le-mul_right (x * y) h, mul-le-mul k l)) p in
    le_of_mul-le-mul_right {k = d} (omega (arith, mul-le-mul_left lo e)) q

upper-product : (U hi a c x y d m D : ℕ) → 0 < U → 0 < d → a * c ≤ hi * U → U * d ≤ a * x → U * d ≤ c * y
    → y * x * D ≤ m * (d * d) → U * D ≤ hi * m
upper-product U hi a c x y d m D p q h k l e =
    let A : U * (d * d) ≤ hi * (y * x) =
    le_of_mul-le-mul_right {k = U} (omega (arith, mul-le-mul_right (x * y) h, mul-le-mul k l)) p in
    le_of_mul-le-mul_right {k = d * d} (omega (arith, mul-le-mul_right D A, mul-le-mul_left hi e)) (mul-pos q q)

-- ---- the cut-off

far-algebra : (U d n d' n' : ℕ) → 0 < d → U * d ≤ n → n * d' ≤ n' * d → U * d' ≤ 1 * n'
far-algebra U d n d' n' p h k = le_of_mul-le-mul_right {k = d} (omega (arith, mul-le-mul_right d' h)) p

later-algebra : (U hi n d n' d' : ℕ) → 0 < d → U * d ≤ hi * n → n * d' ≤ n' * d → U * d' ≤ hi * n'
later-algebra U hi n d n' d' p h k = le_of_mul-le-mul_right {k = d} (omega (arith, mul-le-mul_left hi k, mul-le-mul_right d' h)) p

-- ---- both ends, at every z

module _ (g : Grid) (s : Sound g) (z : ℕ) where
  n : ℕ
  n = z / step g

  f : ℕ
  f = z % step g

  whole : n * step g + f ≡ z
  unfolding n f
  whole = div-add-mod' z (step g)

  -- the exponential's lower end is at most every order's upper end
  pub lower-sound : (j : ℕ) → exp_lower g z * taylor_num z g.unit j ≤ g.unit * taylor_den g.unit j
  unfolding exp_lower n f
  lower-sound j =
      elim (dec_lt z (cutoff_units g)) [
        | yes l ↦
            rw (lt-ltb z (cutoff_units g) l)
            (lower-product g.unit _ _ _ _ _ (taylor_den g.unit j) _ g.positive
            (taylor_den-positive g.unit j g.positive)
            (div-mul-le_self (sum_lower g f * constant_lower g n) g.unit)
            (sum-lower g s f (rest-small g s z) j) (constant-lower g s n (steps-below g s z l) j)
            (subst (λ (x : ℕ). taylor_num x g.unit j * taylor_den g.unit j
            ≤ taylor_num (n * step g) g.unit j * taylor_num f g.unit j) whole
            (sum-of-sum (n * step g) f g.unit j g.positive)))
        | no l ↦ rw (le-ltb z (cutoff_units g) (omega arith)) (omega arith)
      ]

  -- from the cut-off on s is at least the unit
  pub far : cutoff_units g ≤ z → (j : ℕ) → s.order ≤ j → g.unit * taylor_den g.unit j ≤ 1 * taylor_num z g.unit j
  far l j k =
      later-algebra g.unit 1 _ (taylor_den g.unit s.order) _ _ (taylor_den-positive g.unit s.order g.positive)
      (far-algebra g.unit _ _ _ _ (taylor_den-positive 1 s.order (omega arith)) s.cutoff-far
      (sum-monotone g.cutoff 1 z g.unit s.order (omega arith)))
      (sum-grows z g.unit s.order j g.positive k)

  pub upper-at : g.unit * taylor_den g.unit (s.order + s.order) ≤ exp_upper g z * taylor_num z g.unit (s.order + s.order)
  unfolding exp_upper n f
  upper-at =
      elim (dec_lt z (cutoff_units g)) [
        | yes l ↦
            rw (lt-ltb z (cutoff_units g) l)
            (upper-product g.unit _ (sum_upper g f) (constant_upper g n) _ _ (taylor_den g.unit s.order) _ _ g.positive
            (taylor_den-positive g.unit s.order g.positive)
            (ceilℕ-encloses (sum_upper g f * constant_upper g n) g.positive).0
            (sum-upper g s f (rest-small g s z) s.order (rw s.upper-last s.upper-order))
            (constant-upper g s n (steps-below g s z l))
            (subst (λ (x : ℕ). taylor_num (n * step g) g.unit s.order * taylor_num f g.unit s.order
            * taylor_den g.unit (s.order + s.order)
            ≤ taylor_num x g.unit (s.order + s.order) * (taylor_den g.unit s.order * taylor_den g.unit s.order)) whole
            (product-of-sums (n * step g) f g.unit s.order s.order g.positive)))
        | no l ↦ rw (le-ltb z (cutoff_units g) (omega arith)) (far (omega arith) (s.order + s.order) (omega arith))
      ]

  -- the exponential's upper end is at least every order's lower end
  pub upper-sound : (j : ℕ) → g.unit * stretched_den z g.unit j ≤ exp_upper g z * stretched_num z g.unit j
  upper-sound j =
      later-algebra g.unit (exp_upper g z) _ (taylor_den g.unit (s.order + s.order)) _ _
      (taylor_den-positive g.unit (s.order + s.order) g.positive) upper-at
      (sum-below-stretched z g.unit j (s.order + s.order) g.positive)
