-- The powers of u on a grid: the lower ones are at most u^k and the upper ones at least, in units; at u ≤ 1 none passes the
-- unit, and at u ≤ 1/2 each is at most half of the one before, the upper ones but for a unit.
use Prim.Native.Nat.{ℕ, zero, suc, ◌+◌, ◌*◌, ◌^◌, ◌≤◌, ◌<◌}
use Rattle.std.proofs.Math.Nat.{mul-le-mul_left, mul-le-mul_right, le_of_mul-le-mul_right, le_refl, pow-suc, pow-zero}
use native.Mathlib.Omega.{arith}
use Rattle.number_whole.proofs.laws.DivisionLaws.{floorℕ-encloses, ceilℕ-encloses, ceilℕ-least, le-of-mul-lt}
use Rattle.number_exponential.specs.Grid.{Grid}
use Rattle.model_logarithm.specs.Logarithm.{power_lower, power_upper}

-- ---- one step, over opaque numbers

lower-step : (U x y u T P : ℕ) → y * U ≤ u * x → x * T ≤ U * P → y * (T * U) ≤ U * (P * u)
lower-step U x y u T P h k = omega (arith, mul-le-mul_right T h, mul-le-mul_left u k)

upper-step : (U x y u T P : ℕ) → u * x ≤ y * U → U * P ≤ x * T → U * (P * u) ≤ y * (T * U)
upper-step U x y u T P h k = omega (arith, mul-le-mul_right T h, mul-le-mul_left u k)

-- 2·y ≤ x from y·U ≤ u·x and 2·u ≤ U
half-lower : (U x y u : ℕ) → 0 < U → 2 * u ≤ U → y * U ≤ u * x → 2 * y ≤ x
half-lower U x y u p l h = le_of_mul-le-mul_right {k = U} (omega (arith, mul-le-mul_right x l)) p

-- 2·y ≤ x + 1 from y·U < u·x + U and 2·u ≤ U
half-upper : (U x y u : ℕ) → 2 * u ≤ U → y * U < u * x + U → 2 * y ≤ suc x
half-upper U x y u l h = le-of-mul-lt (2 * y) (suc x) U (omega (arith, mul-le-mul_right x l))

module _ (g : Grid) (positive : 0 < g.unit) where
  -- the steps' own roundings
  pub power-lower-encloses : (u k : ℕ)
      → (power_lower g u (suc k) * g.unit ≤ u * power_lower g u k)
      × (u * power_lower g u k < power_lower g u (suc k) * g.unit + g.unit)
  unfolding power_lower
  power-lower-encloses u k = floorℕ-encloses (u * power_lower g u k) positive

  pub power-upper-encloses : (u k : ℕ)
      → (u * power_upper g u k ≤ power_upper g u (suc k) * g.unit)
      × (power_upper g u (suc k) * g.unit < u * power_upper g u k + g.unit)
  unfolding power_upper
  power-upper-encloses u k = ceilℕ-encloses (u * power_upper g u k) positive

  -- the lower power is at most u^k, the upper one at least
  pub power-lower : (u k : ℕ) → power_lower g u k * g.unit ^ k ≤ g.unit * u ^ k
  unfolding power_lower
  power-lower u zero = rw (pow-zero g.unit, pow-zero u) (le_refl _)
  power-lower u (suc k) =
      rw (pow-suc g.unit k, pow-suc u k)
      (lower-step g.unit (power_lower g u k) _ u (g.unit ^ k) (u ^ k) (power-lower-encloses u k).0 (power-lower u k))

  pub power-upper : (u k : ℕ) → g.unit * u ^ k ≤ power_upper g u k * g.unit ^ k
  unfolding power_upper
  power-upper u zero = rw (pow-zero g.unit, pow-zero u) (le_refl _)
  power-upper u (suc k) =
      rw (pow-suc g.unit k, pow-suc u k)
      (upper-step g.unit (power_upper g u k) _ u (g.unit ^ k) (u ^ k) (power-upper-encloses u k).0 (power-upper u k))

  -- at u ≤ 1 no power passes the unit
  pub power-lower-bound : (u : ℕ) → u ≤ g.unit → (k : ℕ) → power_lower g u k ≤ g.unit
  unfolding power_lower
  power-lower-bound u l zero = le_refl _
  power-lower-bound u l (suc k) =
      le_of_mul-le-mul_right {k = g.unit}
      (omega (arith, (power-lower-encloses u k).0, mul-le-mul_left u (power-lower-bound u l k), mul-le-mul_right g.unit l))
      positive

  pub power-upper-bound : (u : ℕ) → u ≤ g.unit → (k : ℕ) → power_upper g u k ≤ g.unit
  unfolding power_upper
  power-upper-bound u l zero = le_refl _
  power-upper-bound u l (suc k) =
      ceilℕ-least g.unit _ positive
      (omega (arith, mul-le-mul_left u (power-upper-bound u l k), mul-le-mul_right g.unit l))

  -- at u ≤ 1/2: 2^k times the lower power is at most the unit, 2^k times one less than the upper one too
  pub power-lower-halves : (u : ℕ) → 2 * u ≤ g.unit → (k : ℕ) → 2 ^ k * power_lower g u k ≤ g.unit
  unfolding power_lower
  power-lower-halves u l zero = omega arith
  power-lower-halves u l (suc k) =
      let h = half-lower g.unit (power_lower g u k) (power_lower g u (suc k)) u positive l (power-lower-encloses u k).0 in
      rw (pow-suc 2 k) (omega (arith, mul-le-mul_left (2 ^ k) h, power-lower-halves u l k))

  pub power-upper-halves : (u : ℕ) → 2 * u ≤ g.unit → (k : ℕ) → 2 ^ k * power_upper g u k ≤ g.unit + 2 ^ k
  unfolding power_upper
  power-upper-halves u l zero = omega arith
  power-upper-halves u l (suc k) =
      let h = half-upper g.unit (power_upper g u k) (power_upper g u (suc k)) u l (power-upper-encloses u k).1 in
      rw (pow-suc 2 k) (omega (arith, mul-le-mul_left (2 ^ k) h, power-upper-halves u l k))
