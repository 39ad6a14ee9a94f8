-- The exponential's ends as the logistic needs them: they lie in order, and the upper end
-- at z lies above the lower end at z + d by at most d·e^−z, relative to the unit, and the grid's slack.
use Rattle.std.specs.Prelude.{◌≡◌, ℕ, zero, suc, ◌+◌, ◌*◌, ◌≤◌, ◌<◌}
use Rattle.std.proofs.Common.{mul-le-mul_left, mul-le-mul_right, le_of_mul-le-mul_right, mul-pos, le_antisymm, arith}
use Rattle.number_taylor.specs.Taylor.{taylor_den, taylor_num}
use Rattle.number_taylor.proofs.laws.Factorial.{factorial}
use Rattle.number_taylor.specs.Positive.{taylor_den-positive, taylor_num-positive}
use Rattle.number_taylor.proofs.laws.Sums.{sum-monotone, sum-slope}
use Rattle.number_taylor.proofs.laws.Products.{sum-of-sum}
use Rattle.number_exponential.specs.Grid.{Grid}
use Rattle.number_exponential.specs.Exponential.{exp_lower, exp_upper}
use Rattle.number_exponential.proofs.laws.Facts.{Sound}
use Rattle.number_exponential.proofs.laws.WidthFacts.{Narrow, slack_upper, slack_lower}
use Rattle.number_exponential.proofs.laws.Soundness.{lower-sound, upper-at}
use Rattle.number_exponential.proofs.laws.Width.{upper-near, lower-near}
use Rattle.number_exponential.proofs.laws.AtMostOne.{exp-upper-one}

-- s at a greater z, over the same denominator
num-monotone : (q j : ℕ) → 0 < q → (z z' : ℕ) → z ≤ z' → taylor_num z q j ≤ taylor_num z' q j
num-monotone q j p z z' h =
    le_of_mul-le-mul_right {k = taylor_den q j} (sum-monotone z q z' q j (mul-le-mul_right q h))
    (taylor_den-positive q j p)

-- ---- the ends in order

-- lo·n' ≤ U-as-D ≤ hi·n with n ≤ n' gives lo ≤ hi
ordered-algebra : (lo hi n n' X : ℕ) → 0 < n' → lo * n' ≤ X → X ≤ hi * n → n ≤ n' → lo ≤ hi
ordered-algebra lo hi n n' X p h k l = le_of_mul-le-mul_right {k = n'} (omega (arith, mul-le-mul_left hi l)) p

-- the lower end at z' ≥ z is at most the upper end at z
pub exp-ordered : (g : Grid) → Sound g → (z z' : ℕ) → z ≤ z' → exp_lower g z' ≤ exp_upper g z
exp-ordered g s z z' h =
    let J = s.order + s.order in
    ordered-algebra _ _ _ _ _ (taylor_num-positive z' g.unit J g.positive) (lower-sound g s z' J)
    (upper-at g s z)
    (num-monotone g.unit J g.positive z z' h)

-- ---- the upper end relative to the lower one

-- the upper end at 0 is the unit
first-upper : (U hi n d : ℕ) → 0 < d → U * d ≤ hi * n → n ≤ d → U ≤ hi
first-upper U hi n d p h k = le_of_mul-le-mul_right {k = d} (omega (arith, mul-le-mul_left hi k)) p

zero-slope : (q n d : ℕ) → 0 < q → q * n ≤ q * d + 0 * n → n ≤ d
zero-slope q n d p h = le_of_mul-le-mul_right {k = q} (omega arith) p

pub exp-upper-zero : (g : Grid) → Sound g → exp_upper g 0 ≡ g.unit
exp-upper-zero g s =
    let J = s.order + s.order in
    le_antisymm (exp-upper-one g s 0)
    (first-upper _ _ _ _ (taylor_den-positive g.unit J g.positive) (upper-at g s 0)
    (zero-slope g.unit _ _ g.positive (sum-slope 0 g.unit J)))

-- ---- the relative width

-- with z, x and m the sums at z, d and z + d, and m' that at a place of at most z + d
relative-algebra : (U hi Y S d D z x m m' : ℕ) → 0 < U → 0 < z → 0 < x → 3 * hi * z ≤ 3 * (U * D) + S * z
    → 3 * (U * D) ≤ Y * m' → m' ≤ m → m * D ≤ z * x → U * x ≤ U * D + d * x → U * D ≤ hi * z
    → 3 * (U * hi) ≤ U * Y + 3 * (d * hi) + U * S
relative-algebra U hi Y S d D z x m m' p pz px h k k' l n r =
    let a : 3 * (U * (D * D)) ≤ Y * (z * x) =
    omega (arith, mul-le-mul_right D k, mul-le-mul_left Y (mul-le-mul_right D k'), mul-le-mul_left Y l) in
    let b : 3 * (U * D) ≤ Y * z + 3 * d * D =
    le_of_mul-le-mul_right {k = U * x}
    (omega (arith, mul-le-mul_left (3 * (U * D)) n, mul-le-mul_left U a)) (mul-pos p px) in
    le_of_mul-le-mul_right {k = z}
    (omega (arith, mul-le-mul_left U h, mul-le-mul_left U b, mul-le-mul_left (3 * d) r)) pz

-- the terms left out are less than a third of a unit, so there is a term
one-order-by : (o p U : ℕ) → 0 < U → p ≤ o → 3 * U ≤ factorial (suc p) → 1 ≤ o
unfolding factorial
one-order-by zero zero U h k l = absurd (omega arith)
one-order-by zero (suc p) U h k l = absurd (omega arith)
one-order-by (suc o) p U h k l = omega arith

module _ (g : Grid) (s : Sound g) (w : Narrow g s) where
  one-order : 1 ≤ s.order
  one-order = one-order-by s.order _ g.unit g.positive s.upper-order w.upper-rest

  -- U·e(z) ≤ U·e(z') + d·e(z) + U·slack for every z' ≤ z + d, in thirds
  pub exp-relative-below : (z z' d : ℕ) → z' ≤ z + d
      → 3 * (g.unit * exp_upper g z)
      ≤ 3 * (g.unit * exp_lower g z') + 3 * (d * exp_upper g z) + g.unit * (slack_upper g + slack_lower g)
  exp-relative-below z z' d h =
      let J = s.order + s.order in
      let r = relative-algebra g.unit (exp_upper g z) (3 * exp_lower g z' + slack_lower g) (slack_upper g) d _ _ _ _ _
      g.positive (taylor_num-positive z g.unit J g.positive)
      (taylor_num-positive d g.unit J g.positive)
      (upper-near g s w z J (omega (arith, one-order))) (lower-near g s w z')
      (num-monotone g.unit J g.positive z' (z + d) h)
      (sum-of-sum z d g.unit J g.positive) (sum-slope d g.unit J) (upper-at g s z) in
      omega (arith, r)
