-- Numbers of units as fractions, their sums, and quotients that are rounded outward: they hold the product with a fraction
-- n/d, their ends are in order, at most as far apart as the numbers and 2 units more, and as great as the numbers allow.
use Rattle.std.specs.Prelude.{ℕ, ◌+◌, ◌*◌, ◌/◌, ◌≤◌, ◌<◌}
use Rattle.std.proofs.Common.{mul-le-mul_left, le_of_mul-le-mul_right}
use Rattle.std.proofs.Math.Nat.{mul-le-mul_right, lt_of_mul-lt-mul_right, div-le_of_le-mul}
use native.Mathlib.Omega.{arith}
use Rattle.number_whole.specs.Division.{ceil_div_ℕ}
use Rattle.number_whole.proofs.laws.DivisionLaws.{floorℕ-encloses, ceilℕ-encloses, ceilℕ-least, le-of-mul-lt}
use Rattle.number_fraction.specs.Ratio.{Ratio, ◌≤/◌, ◌+/◌, ◌*/◌}
use Rattle.number_fraction.proofs.laws.RatioLaws.{≤/-refl, ≤/-trans, */-mono}
use Rattle.number_exponential.specs.Grid.{Grid, in_units}
use Rattle.number_exponential.specs.declared.Ends.{Ends}
use Rattle.number_exponential.proofs.laws.Overlap.{Overlap}
use Rattle.number_exponential.specs.Outward.{outward_over}

-- ---- sums of units

module _ (g : Grid) where
  pub units-over : (u n : ℕ) {l : ℕ} → u + n ≤ l → in_units g u +/ in_units g n ≤/ in_units g l
  unfolding in_units ◌+/◌
  units-over u n h = record { cross = omega (arith, mul-le-mul_right (g.unit * g.unit) h) }

  pub units-within : (l n : ℕ) {u : ℕ} → u ≤ l + n → in_units g u ≤/ in_units g l +/ in_units g n
  unfolding in_units ◌+/◌
  units-within l n h = record { cross = omega (arith, mul-le-mul_right (g.unit * g.unit) h) }

-- ---- a product with a fraction

below-algebra : (q a n d N D U : ℕ) → 0 < d → q * d ≤ a * n → n * D ≤ N * d → q * (U * D) ≤ a * N * U
below-algebra q a n d N D U p h k =
    let c : q * D ≤ a * N = le_of_mul-le-mul_right {k = d} (omega (arith, mul-le-mul_right D h, mul-le-mul_left a k)) p in
    omega (arith, mul-le-mul_right U c)

above-algebra : (q a n d N D U : ℕ) → 0 < d → a * n ≤ q * d → N * d ≤ n * D → a * N * U ≤ q * (U * D)
above-algebra q a n d N D U p h k =
    let c : a * N ≤ q * D = le_of_mul-le-mul_right {k = d} (omega (arith, mul-le-mul_right D h, mul-le-mul_left a k)) p in
    omega (arith, mul-le-mul_right U c)

module _ (g : Grid) (d : ℕ) (p : 0 < d) where
  floor-below : (a n : ℕ) (x : Ratio) → n * x.den ≤ x.num * d → in_units g (a * n / d) ≤/ in_units g a */ x
  unfolding in_units ◌*/◌
  floor-below a n x h =
      record { cross = below-algebra (a * n / d) a n d x.num x.den g.unit p (floorℕ-encloses (a * n) p).0 h }

  ceil-above : (a n : ℕ) (x : Ratio) → x.num * d ≤ n * x.den → in_units g a */ x ≤/ in_units g (ceil_div_ℕ (a * n) d)
  unfolding in_units ◌*/◌
  ceil-above a n x h =
      record { cross = above-algebra (ceil_div_ℕ (a * n) d) a n d x.num x.den g.unit p (ceilℕ-encloses (a * n) p).0 h }

  -- ends that overlap an interval, times l/d and u/d outward, overlap its product with an interval from x to y, where l/d is
  -- at most y and u/d at least x
  pub outward-holds : {e : Ends} {least most : Ratio} (l u : ℕ) (x y : Ratio) → Overlap g e least most
      → l * y.den ≤ y.num * d → x.num * d ≤ u * x.den
      → Overlap g (outward_over (e.lower * l) (e.upper * u) d) (least */ x) (most */ y)
  unfolding outward_over
  outward-holds {e} l u x y h j k =
      record {
        below = ≤/-trans (floor-below e.lower l y j) (*/-mono h.below (≤/-refl y));
        above = ≤/-trans (*/-mono h.above (≤/-refl x)) (ceil-above e.upper u x k);
      }

-- ---- the ends

module _ (x y : ℕ) {d : ℕ} (p : 0 < d) where
  pub outward-ordered : x ≤ y → (outward_over x y d).lower ≤ (outward_over x y d).upper
  unfolding outward_over
  outward-ordered h =
      le-of-mul-lt (x / d) (ceil_div_ℕ y d) d (omega (arith, floorℕ-encloses x p, ceilℕ-encloses y p))

  pub outward-width : (w : ℕ) → y ≤ x + w * d → (outward_over x y d).upper ≤ (outward_over x y d).lower + (w + 2)
  unfolding outward_over
  outward-width w h =
      let l : ceil_div_ℕ y d < x / d + (w + 2) =
      lt_of_mul-lt-mul_right d (omega (arith, floorℕ-encloses x p, ceilℕ-encloses y p)) in
      omega arith

  pub outward-most : (m : ℕ) → x ≤ m * d → y ≤ m * d → ((outward_over x y d).lower ≤ m) × ((outward_over x y d).upper ≤ m)
  unfolding outward_over
  outward-most m h k = (div-le_of_le-mul d (omega arith), ceilℕ-least m y p k)
