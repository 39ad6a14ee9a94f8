-- How far apart the exponential's ends lie: the upper end at z is at most the lower end at z' ≥ z, z' − z and a constant of
-- the grid. Both ends are compared with unit/s at one order, in thirds of a unit.
use Rattle.std.specs.Prelude.{◌≡◌, length}
use Rattle.std.proofs.Common.{ap, subst, ◌∙◌, mul-le-mul_left, mul-le-mul, le_of_mul-le-mul_right, mul-pos, div-add-mod', le_of_lt, pow-suc, one-mul, lt-ltb, le-ltb}
use Prim.Native.Nat.{ℕ, zero, suc, ◌+◌, ◌-◌, ◌*◌, ◌/◌, ◌%◌, ◌^◌, ◌≤◌, ◌<◌}
use Rattle.std.proofs.Math.Nat.{mul-le-mul_right, lt-div-mul-add, min-le_left, zero-mul, zero-add, pow-zero}
use Rattle.std.proofs.Math.Decide.{dec_lt}
use native.Mathlib.Omega.{arith}
use Rattle.number_whole.specs.Division.{ceil_div_ℕ}
use Rattle.number_whole.proofs.laws.DivisionLaws.{ceilℕ-encloses, ceilℕ-exact, floorℕ-exact}
use Rattle.number_taylor.specs.Taylor.{taylor_den, taylor_num}
use Rattle.number_taylor.specs.Positive.{taylor_den-positive, taylor_num-positive, sum-at-least-one}
use Rattle.number_taylor.proofs.laws.Sums.{sum-grows, sum-slope}
use Rattle.number_taylor.proofs.laws.Products.{sum-of-sum, product-of-sums}
use Rattle.number_taylor.specs.Alternating.{double}
use Rattle.number_exponential.specs.Grid.{Grid}
use Rattle.number_exponential.specs.Exponential.{step, cutoff_units, sum_lower, sum_upper, constant_lower, constant_upper, exp_lower, exp_upper}
use Rattle.number_exponential.proofs.laws.Facts.{Sound}
use Rattle.number_exponential.proofs.laws.WidthFacts.{Narrow, slack_upper, slack_lower, exp_width}
use Rattle.number_exponential.proofs.laws.SumLaws.{sub-mul, sum-lower}
use Rattle.number_exponential.proofs.laws.NearSums.{sum-upper-near, sum-lower-near}
use Rattle.number_exponential.proofs.laws.Soundness.{step-positive, rest-small, steps-below, constant-lower, constant-upper, far}

-- ---- s of at least one step is so far above 1 that the slack covers the product's own error

margin-algebra : (h t y F S p U : ℕ) → h * t ≡ U → 0 < t → (U * 1 + p) * F ≤ y * (U * 1) → t ≤ p → 9 * suc h ≤ S
    → 9 * y + S * F ≤ S * y
margin-algebra h t y F S p U e q k l m =
    let a : suc h * F ≤ y * h =
    le_of_mul-le-mul_right {k = t}
    (omega (arith, mul-le-mul_right F l, ap (λ (u : ℕ). u * F) e, ap (λ (u : ℕ). y * u) e)) q in
    le_of_mul-le-mul_right {k = suc h} (omega (arith, mul-le-mul_left S a, mul-le-mul_left y m)) (omega arith)

first-num : (p q : ℕ) → taylor_num p q 1 ≡ q * 1 + p
unfolding taylor_num
first-num p q = let e : p ^ 1 ≡ p = pow-suc p 0 ∙ ap (λ (x : ℕ). x * p) (pow-zero p) ∙ one-mul p in rw e (omega arith)

first-den : (q : ℕ) → taylor_den q 1 ≡ q * 1
unfolding taylor_den
first-den q = omega arith

-- ---- the upper end

upper-core : (U hi a c x y F S : ℕ) → 0 < U → hi * U ≤ a * suc c + U → 3 * a * x ≤ 3 * (U * F) + S * x → c * y ≤ U * F
    → a ≤ U → 9 * y + S * F ≤ S * y → 3 * hi * (y * x) ≤ 3 * (U * (F * F)) + S * (y * x)
upper-core U hi a c x y F S p h k l m r =
    le_of_mul-le-mul_right {k = U}
    (omega (
      arith,
      mul-le-mul_right (y * x) h,
      mul-le-mul_right (c * y) k,
      mul-le-mul_left (3 * (U * F) + S * x) l,
      mul-le-mul_right (y * x) m,
      mul-le-mul_right (U * x) r,
    )) p

-- from the product of the two sums to s itself
upper-whole : (U hi X F S m : ℕ) → 0 < F → 3 * hi * X ≤ 3 * (U * (F * F)) + S * X → m * F ≤ X
    → 3 * hi * m ≤ 3 * (U * F) + S * m
upper-whole U hi X F S m p h k =
    let a : (3 * hi - S) * X ≤ 3 * (U * (F * F)) = let e = sub-mul (3 * hi) S X in omega (arith, e) in
    let b : (3 * hi - S) * m ≤ 3 * (U * F) =
    le_of_mul-le-mul_right {k = F} (omega (arith, mul-le-mul_left (3 * hi - S) k)) p in
    let e = sub-mul (3 * hi) S m in omega (arith, e)

-- ---- the lower end

lower-core : (U lo a c x y F S : ℕ) → 0 < U → a * c ≤ suc lo * U → 3 * (U * F) ≤ (3 * a + S) * x → U * F ≤ suc c * y
    → c * y ≤ U * F → a ≤ U → S ≤ 3 * U → 9 * y + S * F ≤ S * y → 3 * (U * (F * F)) ≤ (3 * lo + S) * (y * x)
lower-core U lo a c x y F S p h k l l' m q r =
    le_of_mul-le-mul_right {k = U}
    (omega (
      arith,
      mul-le-mul k l,
      mul-le-mul_right (x * y) h,
      mul-le-mul_right (x * y) m,
      mul-le-mul_left (S * x) l',
      mul-le-mul_right (x * y) q,
      mul-le-mul_right (U * x) r,
    )) p

lower-whole : (U S X F m D : ℕ) → 0 < F → 3 * (U * (F * F)) ≤ S * X → X * D ≤ m * (F * F) → 3 * (U * D) ≤ S * m
lower-whole U S X F m D p h k =
    le_of_mul-le-mul_right {k = F * F} (omega (arith, mul-le-mul_right D h, mul-le-mul_left S k)) (mul-pos p p)

later : (U S n d n' d' : ℕ) → 0 < d → 3 * (U * d) ≤ S * n → n * d' ≤ n' * d → 3 * (U * d') ≤ S * n'
later U S n d n' d' p h k = le_of_mul-le-mul_right {k = d} (omega (arith, mul-le-mul_left S k, mul-le-mul_right d' h)) p

below-by-sums : (a U F n : ℕ) → 0 < n → a * n ≤ U * F → F ≤ n → a ≤ U
below-by-sums a U F n p h k = le_of_mul-le-mul_right {k = n} (omega (arith, mul-le-mul_left U k)) p

small-slack : (S U N D : ℕ) → 0 < D → S * N < 3 * U * D → D ≤ N → S ≤ 3 * U
small-slack S U N D p h k = le_of_mul-le-mul_right {k = D} (omega (arith, mul-le-mul_left S k)) p

-- 3·hi·z ≤ 3·U·D + S·z, 3·U·D ≤ (3·lo + S')·m, m·D ≤ z·x, U·x ≤ U-as-D + d·x and D ≤ z, with z, x and m the sums at z, d and z + d
width-slope : (U x z D d Y : ℕ) → 0 < U → 0 < x → 3 * (U * (D * D)) ≤ Y * (z * x) → U * x ≤ U * D + d * x → D ≤ z
    → 3 * (U * D) ≤ Y * z + 3 * d * z
width-slope U x z D d Y p q h k l =
    let a : 3 * (U * D) ≤ Y * z + 3 * d * D =
    le_of_mul-le-mul_right {k = U * x} (omega (arith, mul-le-mul_left (3 * (U * D)) k, mul-le-mul_left U h)) (mul-pos p q) in
    omega (arith, mul-le-mul_left (3 * d) l)

width-algebra : (U hi lo S S' d D z x m : ℕ) → 0 < U → 0 < z → 0 < x → 0 < D → 3 * hi * z ≤ 3 * (U * D) + S * z
    → 3 * (U * D) ≤ (3 * lo + S') * m → m * D ≤ z * x → U * x ≤ U * D + d * x → D ≤ z → 3 * hi ≤ 3 * lo + 3 * d + (S + S')
width-algebra U hi lo S S' d D z x m p pz px pd h k l n r =
    let a : 3 * (U * (D * D)) ≤ (3 * lo + S') * (z * x) = omega (arith, mul-le-mul_right D k, mul-le-mul_left (3 * lo + S') l) in
    let b : 3 * (U * D) ≤ (3 * lo + S') * z + 3 * d * z = width-slope U x z D d (3 * lo + S') p px a n r in
    le_of_mul-le-mul_right {k = z} (omega arith) pz

thirds : (hi lo d S S' : ℕ) → 3 * hi ≤ 3 * lo + 3 * d + (S + S') → hi ≤ lo + d + (S + S') / 3
thirds hi lo d S S' h = omega arith

pub sum-upper-bound : (g : Grid) (f : ℕ) → sum_upper g f ≤ g.unit
unfolding sum_upper
sum-upper-bound g f = min-le_left g.unit _

-- ---- both ends against unit/s

module _ (g : Grid) (s : Sound g) (w : Narrow g s) where
  one-order : 1 ≤ s.order
  unfolding double
  one-order = omega (arith, w.lower-order)

  margin : (n j S : ℕ) → 0 < n → 1 ≤ j → 9 * suc g.steps ≤ S
      → 9 * taylor_num (n * step g) g.unit j + S * taylor_den g.unit j ≤ S * taylor_num (n * step g) g.unit j
  margin n j S l k m =
      margin-algebra g.steps (step g) _ _ S (n * step g) g.unit s.whole-step (step-positive g s)
      (rw (first-num (n * step g) g.unit, first-den g.unit) at (sum-grows (n * step g) g.unit 1 j g.positive k))
      (omega (arith, mul-le-mul_right (step g) l)) m

  -- below the cut-off, by the number n of steps
  upper-below : (n f j : ℕ) → f ≤ g.unit → n < length g.constants → 1 ≤ j
      → 3 * ceil_div_ℕ (sum_upper g f * constant_upper g n) g.unit * taylor_num (n * step g + f) g.unit j
      ≤ 3 * (g.unit * taylor_den g.unit j) + slack_upper g * taylor_num (n * step g + f) g.unit j
  unfolding constant_upper
  upper-below zero f j l k i =
      rw (ceilℕ-exact (sum_upper g f) g.positive, zero-mul (step g), zero-add f) (sum-upper-near g s w f l j)
  upper-below (suc n) f j l k i =
      upper-whole g.unit _ _ _ (slack_upper g) _ (taylor_den-positive g.unit j g.positive)
      (upper-core g.unit _ (sum_upper g f) (constant_lower g (suc n)) _ _ _ _ g.positive
      (le_of_lt (ceilℕ-encloses _ g.positive).1) (sum-upper-near g s w f l j) (constant-lower g s (suc n) k j)
      (sum-upper-bound g f) (margin (suc n) j (slack_upper g) (omega arith) i w.upper-slack))
      (sum-of-sum (suc n * step g) f g.unit j g.positive)

  lower-below : (n f : ℕ) → f ≤ g.unit → n < length g.constants
      → 3 * (g.unit * taylor_den g.unit (s.order + s.order))
      ≤ (3 * (sum_lower g f * constant_lower g n / g.unit) + slack_lower g) * taylor_num (n * step g + f) g.unit (s.order + s.order)
  unfolding constant_upper
  lower-below zero f l k =
      rw (s.constant-first, floorℕ-exact (sum_lower g f) g.positive, zero-mul (step g), zero-add f)
      (later g.unit _ _ (taylor_den g.unit s.order) _ _ (taylor_den-positive g.unit s.order g.positive)
      (sum-lower-near g s w f l) (sum-grows f g.unit s.order (s.order + s.order) g.positive (omega arith)))
  lower-below (suc n) f l k =
      lower-whole g.unit _ _ (taylor_den g.unit s.order) _ _ (taylor_den-positive g.unit s.order g.positive)
      (lower-core g.unit _ (sum_lower g f) (constant_lower g (suc n)) _ _ _ (slack_lower g) g.positive
      (omega (arith, lt-div-mul-add {a = sum_lower g f * constant_lower g (suc n)} g.positive))
      (sum-lower-near g s w f l) (constant-upper g s (suc n) k) (constant-lower g s (suc n) k s.order)
      (below-by-sums _ _ _ _ (taylor_num-positive f g.unit s.order g.positive) (sum-lower g s f l s.order)
      (sum-at-least-one f g.unit s.order))
      (small-slack (slack_lower g) g.unit _ _ (taylor_den-positive 1 s.order (omega arith)) w.fine (sum-at-least-one 1 1 s.order))
      (margin (suc n) s.order (slack_lower g) (omega arith) one-order w.lower-slack))
      (product-of-sums (suc n * step g) f g.unit s.order s.order g.positive)

  -- the upper end at z is at most unit/s and its slack
  pub upper-near : (z j : ℕ) → 1 ≤ j
      → 3 * exp_upper g z * taylor_num z g.unit j ≤ 3 * (g.unit * taylor_den g.unit j) + slack_upper g * taylor_num z g.unit j
  unfolding exp_upper
  upper-near z j i =
      elim (dec_lt z (cutoff_units g)) [
        | yes l ↦
            rw (lt-ltb z (cutoff_units g) l)
            (subst (λ (x : ℕ). 3 * ceil_div_ℕ (sum_upper g (z % step g) * constant_upper g (z / step g)) g.unit * taylor_num x g.unit j
            ≤ 3 * (g.unit * taylor_den g.unit j) + slack_upper g * taylor_num x g.unit j) (div-add-mod' z (step g))
            (upper-below (z / step g) (z % step g) j (rest-small g s z) (steps-below g s z l) i))
        | no l ↦ rw (le-ltb z (cutoff_units g) (omega arith)) (omega (arith, mul-le-mul_right (taylor_num z g.unit j) w.upper-slack))
      ]

  -- the lower end at z and its slack are at least unit/s
  pub lower-near : (z : ℕ)
      → 3 * (g.unit * taylor_den g.unit (s.order + s.order))
      ≤ (3 * exp_lower g z + slack_lower g) * taylor_num z g.unit (s.order + s.order)
  unfolding exp_lower
  lower-near z =
      elim (dec_lt z (cutoff_units g)) [
        | yes l ↦
            rw (lt-ltb z (cutoff_units g) l)
            (subst (λ (x : ℕ). 3 * (g.unit * taylor_den g.unit (s.order + s.order))
            ≤ (3 * (sum_lower g (z % step g) * constant_lower g (z / step g) / g.unit) + slack_lower g)
            * taylor_num x g.unit (s.order + s.order)) (div-add-mod' z (step g))
            (lower-below (z / step g) (z % step g) (rest-small g s z) (steps-below g s z l)))
        | no l ↦
            rw (le-ltb z (cutoff_units g) (omega arith))
            (omega (
              arith,
              far g s z (omega arith) (s.order + s.order) (omega arith),
              mul-le-mul_right (taylor_num z g.unit (s.order + s.order)) w.lower-slack,
            ))
      ]

  -- the upper end at z is at most the lower end at z + d, d and the grid's constant
  pub exp-width : (z d : ℕ) → exp_upper g z ≤ exp_lower g (z + d) + d + exp_width g
  unfolding exp_width
  exp-width z d =
      let J = s.order + s.order in
      thirds _ _ _ _ _
      (width-algebra g.unit _ _ _ _ d _ _ _ _ g.positive
      (taylor_num-positive z g.unit J g.positive) (taylor_num-positive d g.unit J g.positive)
      (taylor_den-positive g.unit J g.positive)
      (upper-near z J (omega (arith, one-order))) (lower-near (z + d)) (sum-of-sum z d g.unit J g.positive)
      (sum-slope d g.unit J) (sum-at-least-one z g.unit J))
