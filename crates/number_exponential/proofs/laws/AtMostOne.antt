-- Neither end of the exponential of −z exceeds the unit.
use Rattle.std.specs.Prelude.{◌≡◌, ℕ, zero, suc, ◌+◌, ◌*◌, ◌/◌, ◌%◌, ◌^◌, ◌≤◌, ◌<◌, length}
use Rattle.std.proofs.Common.{mul-le-mul, lt_of_mul-lt-mul_right, mul-pos, le_refl, pow-suc, arith, lt-ltb, le-ltb}
use Rattle.std.proofs.Math.Nat.{pow-zero}
use Rattle.std.proofs.Math.Decide.{dec_lt}
use Rattle.number_whole.proofs.laws.DivisionLaws.{ceilℕ-least}
use Rattle.number_fraction.specs.Ratio.{whole/}
use Rattle.number_fraction.proofs.laws.RatioLaws.{≤/-trans}
use Rattle.number_taylor.specs.Taylor.{taylor_den, taylor_num}
use Rattle.number_taylor.proofs.laws.OrderLaws.{upper-below-one}
use Rattle.number_exponential.specs.Grid.{Grid, in_units}
use Rattle.number_exponential.specs.Exponential.{step, cutoff_units, constant_lower, constant_upper, exp_lower, exp_upper}
use Rattle.number_exponential.proofs.laws.Facts.{Sound}
use Rattle.number_exponential.proofs.laws.Soundness.{step-positive, steps-below, constant-lower}
use Rattle.number_exponential.proofs.laws.Holds.{lower-holds}
use Rattle.number_exponential.proofs.laws.Width.{sum-upper-bound}

pub exp-lower-one : (g : Grid) (s : Sound g) (z : ℕ) → exp_lower g z ≤ g.unit
unfolding in_units whole/
exp-lower-one g s z = omega (arith, (≤/-trans (lower-holds g s z 0) (upper-below-one (in_units g z) 0)).cross)

-- c·(1 + t/U) ≤ U with t > 0
first-algebra : (c U t : ℕ) → 0 < U → 0 < t → c * (1 * (U * 1) + t) ≤ U * (1 * (U * 1)) → c < U
first-algebra zero U t p q h = p
first-algebra (suc c) U t p q h =
    lt_of_mul-lt-mul_right U (omega (arith, mul-pos {m = suc c} {n = t} (omega arith) q))

power-one : (p : ℕ) → p ^ suc zero ≡ p
power-one p = rw (pow-suc p zero, pow-zero p) (omega arith)

pub constant-upper-one : (g : Grid) → Sound g → (n : ℕ) → n < length g.constants → constant_upper g n ≤ g.unit
unfolding constant_upper taylor_num taylor_den
constant-upper-one g s zero l = le_refl g.unit
constant-upper-one g s (suc n) l =
    first-algebra (constant_lower g (suc n)) g.unit (suc n * step g) g.positive
    (mul-pos {m = suc n} (omega arith) (step-positive g s))
    (rw (power-one (suc n * step g)) at (constant-lower g s (suc n) l (suc zero)))

pub exp-upper-one : (g : Grid) → Sound g → (z : ℕ) → exp_upper g z ≤ g.unit
unfolding exp_upper
exp-upper-one g s z =
    elim (dec_lt z (cutoff_units g)) [
      | yes l ↦
          rw (lt-ltb z (cutoff_units g) l)
          (ceilℕ-least g.unit _ g.positive
          (mul-le-mul (sum-upper-bound g (z % step g)) (constant-upper-one g s (z / step g) (steps-below g s z l))))
      | no l ↦ rw (le-ltb z (cutoff_units g) (omega arith)) g.positive
    ]
