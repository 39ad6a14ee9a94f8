-- Two signed ends that hold a number: their products with a whole number and their quotients, the lower end rounded down
-- and the upper one up, hold the product and the quotient; with a number added to both, the sum.
use Rattle.std.specs.Prelude.{ℕ, ◌<◌, ℤ, pos, negsuc, ◌+ℤ◌}
use Rattle.number_whole.proofs.laws.Split.{split}
use Rattle.number_whole.specs.Division.{floor_div, ceil_div}
use Rattle.number_whole.proofs.laws.DivisionLaws.{floor-below, ceil-above}
use Rattle.number_whole.specs.declared.SignedEnds.{SignedEnds}
use Rattle.number_whole.specs.SignedEnds.{least_product, greatest_product, outward, shifted}
use Rattle.number_fraction.specs.Fraction.{Fraction, ◌≤ℚ◌, wholeℚ, ◌+ℚ◌, scaleℚ, quotientℚ}
use Rattle.number_fraction.proofs.laws.FractionLaws.{≤ℚ-trans, scaleℚ-keeps, scaleℚ-exchanges, wholeℚ-≤ℚ, wholeℚ-*ℚ}
use Rattle.number_fraction.proofs.laws.FractionLaws.{quotientℚ-≤ℚ, ≤ℚ-quotientℚ, ≤ℚ-refl, +ℚ-mono, wholeℚ-+ℚ}

-- y lies between the ends
pub record Holds (e : SignedEnds) (y : Fraction) : Type 0 where
  pub low : wholeℚ e.lower ≤ℚ y
  pub high : y ≤ℚ wholeℚ e.upper

-- c·y lies between the least and the greatest product, for c of either sign
pub least-product : (c : ℤ) {e : SignedEnds} {y : Fraction} → Holds e y → wholeℚ (least_product c e) ≤ℚ scaleℚ c y
unfolding least_product wholeℚ scaleℚ
least-product (pos n) h = scaleℚ-keeps {k = pos n} (omega split) h.low
least-product (negsuc n) h = scaleℚ-exchanges {k = negsuc n} (omega split) h.high

pub greatest-product : (c : ℤ) {e : SignedEnds} {y : Fraction} → Holds e y → scaleℚ c y ≤ℚ wholeℚ (greatest_product c e)
unfolding greatest_product wholeℚ scaleℚ
greatest-product (pos n) h = scaleℚ-keeps {k = pos n} (omega split) h.high
greatest-product (negsuc n) h = scaleℚ-exchanges {k = negsuc n} (omega split) h.low

-- y/m lies between the floor of least/m and the ceiling of greatest/m
pub outward-holds : (least greatest : ℤ) {y : Fraction} {m : ℕ} (p : 0 < m) → wholeℚ least ≤ℚ y → y ≤ℚ wholeℚ greatest
    → Holds (outward least greatest m) (quotientℚ y m p)
unfolding outward
outward-holds least greatest {y} {m} p h k = record {
  low = (≤ℚ-quotientℚ m p).0 (≤ℚ-trans (wholeℚ-*ℚ (floor_div least m) (pos m)).above
      (≤ℚ-trans (wholeℚ-≤ℚ.0 (floor-below least p)) h));
  high = (quotientℚ-≤ℚ m p).0 (≤ℚ-trans (≤ℚ-trans k (wholeℚ-≤ℚ.0 (ceil-above greatest p)))
      (wholeℚ-*ℚ (ceil_div greatest m) (pos m)).below);
}

-- c + y lies between the sums of c with the ends
pub sum_low : (c l : ℤ) {y : Fraction} → wholeℚ l ≤ℚ y → wholeℚ (c +ℤ l) ≤ℚ wholeℚ c +ℚ y
sum_low c l h = ≤ℚ-trans (wholeℚ-+ℚ c l).below (+ℚ-mono (≤ℚ-refl (wholeℚ c)) h)

pub sum-high : (c u : ℤ) {y : Fraction} → y ≤ℚ wholeℚ u → wholeℚ c +ℚ y ≤ℚ wholeℚ (c +ℤ u)
sum-high c u h = ≤ℚ-trans (+ℚ-mono (≤ℚ-refl (wholeℚ c)) h) (wholeℚ-+ℚ c u).above

pub shifted-holds : (c : ℤ) {e : SignedEnds} {y : Fraction} → Holds e y → Holds (shifted c e) (wholeℚ c +ℚ y)
shifted-holds c {e} h = record { low = sum_low c e.lower h.low; high = sum-high c e.upper h.high }
