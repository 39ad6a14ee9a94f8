-- How far apart the logarithm's ends lie: at u ≤ 1/2 the upper end at u is at most the lower end at l, twice u − l and a
-- constant of the grid. The k-th powers differ by at most k·(u − l)/2^(k−1) and 4 units, the k-th quotients by at most
-- (u − l)/2^(k−1) and 3 units, and the powers of 1/2 sum to at most 2.
use Rattle.std.specs.Prelude.{◌≡◌}
use Prim.Native.Nat.{ℕ, zero, suc, ◌+◌, ◌*◌, ◌/◌, ◌^◌, ◌≤◌, ◌<◌}
use Rattle.std.proofs.Common.{mul-le-mul_left, mul-le-mul_right, le_of_mul-le-mul_right, pow-suc, arith}
use Rattle.std.proofs.Math.Nat.{le_of_mul-le-mul_left, pow-succ', one-le-pow}
use Rattle.number_whole.specs.Division.{ceil_div_ℕ}
use Rattle.number_whole.proofs.laws.DivisionLaws.{floorℕ-encloses, ceilℕ-encloses, floorℕ-exact, ceilℕ-exact, ceilℕ-least}
use Rattle.number_exponential.specs.Grid.{Grid}
use Rattle.model_logarithm.specs.Logarithm.{power_lower, power_upper, log_terms_lower, log_terms_upper, log_rest, log_lower, log_upper}
use Rattle.model_logarithm.proofs.laws.Powers.{power-lower-encloses, power-upper-encloses, power-lower-halves, power-upper-halves}
use Rattle.model_logarithm.proofs.laws.WidthFacts.{log_width, Fine}

-- ---- the algebra of a step: A = 2^k, x and y the powers, X and Y the next ones

power-algebra : (U A x y X Y u l w k : ℕ) → 0 < U → X * U < u * x + U → l * y < Y * U + U → 2 * u ≤ U → u ≤ l + w
    → 2 * A * y ≤ U → A * x ≤ A * y + w * suc k + 4 * A → 2 * A * X ≤ 2 * A * Y + w * suc (suc k) + 4 * (2 * A)
power-algebra U A x y X Y u l w k p a b c d e h =
    le_of_mul-le-mul_right {k = U}
    (omega (
      arith,
      mul-le-mul_left (2 * A) a,
      mul-le-mul_left (2 * A) b,
      mul-le-mul_left (2 * u) h,
      mul-le-mul_right (w * suc k + 4 * A) c,
      mul-le-mul_right (2 * A * y) d,
      mul-le-mul_right w e,
    )) p

-- the quotients by k + 1 ≥ 2
quotient-algebra : (A x y X Y w k : ℕ) → X * suc (suc k) < x + suc (suc k) → y < Y * suc (suc k) + suc (suc k)
    → A * x ≤ A * y + w * suc (suc k) + 4 * A → A * X ≤ A * Y + w + 3 * A
quotient-algebra A x y X Y w k a b h =
    le_of_mul-le-mul_right {k = suc (suc k)} (omega (arith, mul-le-mul_left A a, mul-le-mul_left A b)) (omega arith)

-- one term more
sum-algebra : (A S s X Y w n : ℕ) → A * S + 2 * w + 3 * A ≤ A * (s + 2 * w + 3 * n) → A * X ≤ A * Y + w + 3 * A
    → A * 2 * (S + X) + 2 * w + 3 * (A * 2) ≤ A * 2 * (s + Y + 2 * w + 3 * suc n)
sum-algebra A S s X Y w n h k = omega arith

rest-algebra : (A U x n : ℕ) → 0 < A → A * x ≤ U + A → U ≤ A * suc n → 0 < n → 2 * x ≤ 3 * suc n
rest-algebra A U x n p h k l = le_of_mul-le-mul_left {k = A} (omega (arith, mul-le-mul_left A l)) p

module _ (g : Grid) (positive : 0 < g.unit) where
  -- the first power is u itself
  first-lower : (u : ℕ) → power_lower g u 1 ≡ u
  unfolding power_lower
  first-lower u = floorℕ-exact u positive

  first-upper : (u : ℕ) → power_upper g u 1 ≡ u
  unfolding power_upper
  first-upper u = ceilℕ-exact u positive

  module _ (u l w : ℕ) (small : 2 * u ≤ g.unit) (least : l ≤ u) (apart : u ≤ l + w) where
    -- the powers, 2^k times
    pub power-width : (k : ℕ) → 2 ^ k * power_upper g u (suc k) ≤ 2 ^ k * power_lower g l (suc k) + w * suc k + 4 * 2 ^ k
    power-width zero = rw (first-lower l, first-upper u) (omega arith)
    power-width (suc k) =
        rw (pow-succ' 2 k)
        (power-algebra g.unit (2 ^ k) (power_upper g u (suc k)) (power_lower g l (suc k)) _ _ u l w k positive
        (power-upper-encloses g positive u (suc k)).1 (power-lower-encloses g positive l (suc k)).1 small apart
        (rw (pow-succ' 2 k) at (power-lower-halves g positive l (omega arith) (suc k))) (power-width k))

    -- the quotients, 2^k times
    pub quotient-width : (k : ℕ)
        → 2 ^ suc k * ceil_div_ℕ (power_upper g u (suc (suc k))) (suc (suc k))
        ≤ 2 ^ suc k * (power_lower g l (suc (suc k)) / suc (suc k)) + w + 3 * 2 ^ suc k
    quotient-width k =
        quotient-algebra (2 ^ suc k) (power_upper g u (suc (suc k))) (power_lower g l (suc (suc k))) _ _ w k
        (ceilℕ-encloses _ (omega arith)).1 (floorℕ-encloses _ (omega arith)).1 (power-width (suc k))

    -- the sums to k + 1, 2^(k+1) times
    pub terms-width : (k : ℕ)
        → 2 ^ suc k * log_terms_upper g u (suc k) + 2 * w + 3 * 2 ^ suc k
        ≤ 2 ^ suc k * (log_terms_lower g l (suc k) + 2 * w + 3 * suc k)
    unfolding log_terms_upper log_terms_lower
    terms-width zero =
        rw (first-lower l, first-upper u)
        (omega (arith, ceilℕ-encloses u {m = 1} (omega arith), floorℕ-encloses l {m = 1} (omega arith)))
    terms-width (suc k) =
        rw (pow-suc 2 (suc k))
        (sum-algebra (2 ^ suc k) (log_terms_upper g u (suc k)) (log_terms_lower g l (suc k)) _ _ w (suc k)
        (terms-width k) (quotient-width k))

    terms-apart : (n : ℕ) → 0 < n → log_terms_upper g u n + 3 ≤ log_terms_lower g l n + 2 * w + 3 * n
    terms-apart zero p = absurd (omega arith)
    terms-apart (suc k) p =
        le_of_mul-le-mul_left {k = 2 ^ suc k} (omega (arith, terms-width k)) (one-le-pow (suc k) 2 (omega arith))

    -- the rest is at most 3 units
    pub rest-width : Fine g → log_rest g u ≤ 3
    unfolding log_rest
    rest-width f =
        let n = g.log_terms in
        ceilℕ-least 3 _ (omega arith)
        (rest-algebra (2 ^ suc n) g.unit (power_upper g u (suc n)) n (one-le-pow (suc n) 2 (omega arith))
        (power-upper-halves g positive u small (suc n)) f.rest-small f.terms-positive)

    -- the upper end at u is at most the lower end at l, twice u − l and the grid's constant
    pub log-width : Fine g → log_upper g u ≤ log_lower g l + 2 * w + log_width g
    unfolding log_upper log_lower log_width
    log-width f = omega (arith, terms-apart g.log_terms f.terms-positive, rest-width f)
