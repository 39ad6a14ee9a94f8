-- Every order of a cell's exact value overlaps the grid's ends: z, the force, H, G, p and q, for a set in its limits, an age
-- and a year whose needed cells are in range.
use Rattle.std.specs.Prelude.{◌≡◌, ℕ, zero, suc, ◌+◌, ◌*◌, ◌≤◌, ◌<◌, ℤ, pos, negsuc, neg_ℤ, nat_abs, ◌+ℤ◌, ◌*ℤ◌, ◌≤ℤ◌}
use Rattle.std.proofs.Math.Path.{refl}
use Rattle.std.proofs.Common.{ap, sym, ◌∙◌, le_trans, mul-le-mul_right, lit<, lt-ltb, le-ltb}
use Rattle.std.proofs.Math.Decide.{dec_lt}
use native.Mathlib.Omega.{arith}
use Rattle.std.proofs.Math.IntN.{pos-*ℤ-pos}
use Rattle.number_whole.proofs.laws.Order.{pos-nonneg, ≤ℤ-of-≡, *ℤ-assoc, *ℤ-distrib-right}
use Rattle.number_whole.specs.Parts.{below}
use Rattle.number_whole.proofs.laws.Above.{above}
use Rattle.number_whole.proofs.laws.Split.{split-abs, split-scale-left}
use Rattle.number_whole.proofs.laws.Difference.{difference, difference-pos, difference-mul, difference-le}
use Rattle.number_whole.proofs.laws.Table.{listed_at}
use Rattle.number_fraction.specs.Ratio.{◌≤/◌, whole/, quotient/}
use Rattle.number_fraction.specs.Fraction.{Fraction, ◌≤ℚ◌, ◌+ℚ◌, wholeℚ, scaleℚ, quotientℚ, signed, absolute}
use Rattle.number_fraction.proofs.laws.FractionTerms.{negℚ}
use Rattle.number_fraction.proofs.laws.FractionLaws.{≤ℚ-trans, signed-≤ℚ, signed-whole, signed-absolute, wholeℚ-≤ℚ, +ℚ-mono}
use Rattle.number_taylor.specs.Order.{least_order}
use Rattle.number_exponential.specs.Grid.{Grid, in_units}
use Rattle.number_exponential.specs.Exponential.{exp_between}
use Rattle.number_exponential.proofs.laws.Facts.{Sound}
use Rattle.number_exponential.proofs.laws.WidthFacts.{Narrow}
use Rattle.number_exponential.proofs.laws.Overlap.{Overlap}
use Rattle.number_exponential.proofs.laws.Holds.{exp-overlap}
use Rattle.set_params.specs.declared.Params.{Params}
use Rattle.set_series.proofs.laws.SeriesLaws.{in_grid_ℚ}
use Rattle.model_log_force.specs.LogForce.{log_force, highest_force}
use Rattle.model_log_force.specs.Exact.{exact_log_force}
use Rattle.model_log_force.proofs.laws.HoldsLaws.{log_force-holds}
use Rattle.model_log_force.specs.code.Within.{log_force_width, Negated}
use Rattle.model_log_force.proofs.laws.RangeLaws.{negated-holds}
use Rattle.model_logarithm.specs.Logarithm.{log_lower, log_upper, inverse_logistic}
use Rattle.model_logarithm.proofs.laws.Force.{force-half}
use Rattle.model_logarithm.proofs.laws.Holds.{log-overlap}
use Rattle.model_closure.specs.Weights.{fitted, first_fitted, first_closed}
use Rattle.model_logistic.proofs.laws.LogisticHolds.{logistic-overlap}
use Rattle.model_logistic.proofs.laws.SignedUnits.{in_units_ℚ, SignedOverlap}
use Rattle.model_closure.specs.Closure.{ends_at, closed_sum}
use Rattle.model_closure.specs.Exact.{interval_at, exact_closed_sum}
use Rattle.model_closure.proofs.laws.WeightedSum.{closed_sum-overlap}
use Rattle.model_force.specs.Force.{negated}
use Rattle.model_mortality.specs.Cell.{young_force, fitted_ends, fitted_list, old_force, force}
use Rattle.model_mortality.specs.Exact.{sheet_unit, exact_m, exact_z, order_young_force, order_fitted, order_fitted_list, order_old_force, order_force}
use Rattle.model_mortality.proofs.laws.Facts.{Fit}
use Rattle.model_mortality.proofs.laws.Answered.{Answered}
use Rattle.model_mortality.proofs.laws.Needed.{young-needed, old-needed}

-- ---- −m as a fraction

nat_abs-neg : (z : ℤ) → nat_abs (neg_ℤ z) ≡ nat_abs z
nat_abs-neg (pos zero) = refl
nat_abs-neg (pos (suc n)) = refl
nat_abs-neg (negsuc n) = refl

absolute-neg : (y : Fraction) → absolute (negℚ y) ≡ absolute y
unfolding absolute negℚ
absolute-neg y = ap (λ (n : ℕ). record { num = n; den = y.den; positive = y.positive }) (nat_abs-neg y.num)

-- a ≤ −y ≤ b gives a ≤ |y| ≤ b
size_below : (y : Fraction) (a : ℕ) → wholeℚ (pos a) ≤ℚ negℚ y → whole/ a ≤/ absolute y
size_below y a h =
    let e = signed-absolute (≤ℚ-trans (wholeℚ-≤ℚ.0 (pos-nonneg a)) h) in
    let k : signed (whole/ a) ≤ℚ signed (absolute (negℚ y)) = rw (signed-whole a) (≤ℚ-trans h e.above) in
    rw (absolute-neg y) at ((signed-≤ℚ {x = whole/ a} {y = absolute (negℚ y)}).1 k)

size_above : (y : Fraction) (b : ℕ) → wholeℚ (pos 0) ≤ℚ negℚ y → negℚ y ≤ℚ wholeℚ (pos b) → absolute y ≤/ whole/ b
size_above y b h k =
    let e = signed-absolute h in
    let l : signed (absolute (negℚ y)) ≤ℚ signed (whole/ b) = rw (signed-whole b) (≤ℚ-trans e.below k) in
    rw (absolute-neg y) at ((signed-≤ℚ {x = absolute (negℚ y)} {y = whole/ b}).1 l)

sum-cross : (a b : ℤ) (U : ℕ) → (a +ℤ b) *ℤ pos (U * U) ≡ (a *ℤ pos U +ℤ b *ℤ pos U) *ℤ pos U
sum-cross a b U =
    ap (λ (t : ℤ). (a +ℤ b) *ℤ t) (sym (pos-*ℤ-pos U U)) ∙ sym (*ℤ-assoc (a +ℤ b) (pos U) (pos U))
    ∙ ap (λ (t : ℤ). t *ℤ pos U) (*ℤ-distrib-right a b (pos U))

abbrev unit-positive : 0 < sheet_unit
unit-positive = lit< tt

-- what stands at each place of the two lists
pub fitted-at : (g : Grid) (p : Params) (n i : ℕ) → i < fitted → ends_at (fitted_list g p n) i ≡ fitted_ends g p n (first_fitted + i)
unfolding fitted_list
fitted-at g p n i h = listed_at (fitted_ends g p n) _ first_fitted fitted i h

pub order-fitted-at : (p : Params) (n j i : ℕ) → i < fitted → interval_at (order_fitted_list p n j) i ≡ order_fitted p n j (first_fitted + i)
unfolding order_fitted_list
order-fitted-at p n j i h = listed_at (order_fitted p n j) _ first_fitted fitted i h

-- ---- units of a grid, and of 10^-9

scaled-size : (s : ℕ) (z : ℤ) → nat_abs (pos s *ℤ z) ≡ s * nat_abs z
scaled-size s z = omega (arith, split-abs (pos s *ℤ z), split-abs z, split-scale-left s z, ap (λ (n : ℕ). s * n) (split-abs z))

-- a number of a grid's units against a fraction in units of 10^-9
size-units-below : (g : Grid) (a : ℕ) (y : Fraction) → whole/ a ≤/ absolute (in_grid_ℚ g y)
    → in_units g a ≤/ quotient/ (absolute y) sheet_unit unit-positive
unfolding in_units quotient/ whole/ absolute scaleℚ
size-units-below g a y h =
    let k : a * y.den ≤ g.scale * nat_abs y.num = omega (arith, h.cross, scaled-size g.scale y.num) in
    record { cross = omega (arith, mul-le-mul_right sheet_unit k, ap (λ (u : ℕ). nat_abs y.num * u) g.scaled) }

size-units-above : (g : Grid) (b : ℕ) (y : Fraction) → absolute (in_grid_ℚ g y) ≤/ whole/ b
    → quotient/ (absolute y) sheet_unit unit-positive ≤/ in_units g b
unfolding in_units quotient/ whole/ absolute scaleℚ
size-units-above g b y h =
    let k : g.scale * nat_abs y.num ≤ b * y.den = omega (arith, h.cross, scaled-size g.scale y.num) in
    record { cross = omega (arith, mul-le-mul_right sheet_unit k, ap (λ (u : ℕ). nat_abs y.num * u) g.scaled) }

units-cross : (a b : ℤ) (s d U : ℕ) → U ≡ s * sheet_unit → (a *ℤ pos d) ≤ℤ ((pos s *ℤ b) *ℤ pos 1) → (a *ℤ pos (d * sheet_unit)) ≤ℤ (b *ℤ pos U)
units-cross a b s d U e h =
    let x = difference a in
    let y = difference b in
    (difference-le (difference-mul x (difference-pos (d * sheet_unit))) (difference-mul y (difference-pos U))).0
    (omega (
      arith,
      ap (λ (u : ℕ). above b * u) e,
      ap (λ (u : ℕ). below b * u) e,
      mul-le-mul_right sheet_unit
          ((difference-le (difference-mul x (difference-pos d)) (difference-mul (difference-mul (difference-pos s) y) (difference-pos 1))).1 h),
    ))

units-cross-above : (a b : ℤ) (s d U : ℕ) → U ≡ s * sheet_unit → ((pos s *ℤ b) *ℤ pos 1) ≤ℤ (a *ℤ pos d) → (b *ℤ pos U) ≤ℤ (a *ℤ pos (d * sheet_unit))
units-cross-above a b s d U e h =
    let x = difference a in
    let y = difference b in
    (difference-le (difference-mul y (difference-pos U)) (difference-mul x (difference-pos (d * sheet_unit)))).0
    (omega (
      arith,
      ap (λ (u : ℕ). above b * u) e,
      ap (λ (u : ℕ). below b * u) e,
      mul-le-mul_right sheet_unit
          ((difference-le (difference-mul (difference-mul (difference-pos s) y) (difference-pos 1)) (difference-mul x (difference-pos d))).1 h),
    ))

signed-units-below : (g : Grid) (a : ℤ) (y : Fraction) → wholeℚ a ≤ℚ in_grid_ℚ g y → in_units_ℚ g a ≤ℚ quotientℚ y sheet_unit unit-positive
unfolding in_units_ℚ quotientℚ wholeℚ scaleℚ
signed-units-below g a y h = record { cross = units-cross a y.num g.scale y.den g.unit g.scaled h.cross }

signed-units-above : (g : Grid) (b : ℤ) (y : Fraction) → in_grid_ℚ g y ≤ℚ wholeℚ b → quotientℚ y sheet_unit unit-positive ≤ℚ in_units_ℚ g b
unfolding in_units_ℚ quotientℚ wholeℚ scaleℚ
signed-units-above g b y h = record { cross = units-cross-above b y.num g.scale y.den g.unit g.scaled h.cross }

module _ (g : Grid) (s : Sound g) (fit : Fit g) where
  exact_z-quotient : (p : Params) (x n : ℕ) → exact_z p x n ≡ quotient/ (absolute (exact_log_force p x n)) sheet_unit unit-positive
  unfolding exact_z exact_m absolute quotientℚ quotient/
  exact_z-quotient p x n = refl

  -- a sum of units
  sum_below : (a : ℤ) (b : ℕ) → in_units_ℚ g (a +ℤ pos b) ≤ℚ in_units_ℚ g a +ℚ signed (in_units g b)
  unfolding in_units_ℚ in_units signed ◌+ℚ◌
  sum_below a b = record { cross = ≤ℤ-of-≡ (sum-cross a (pos b) g.unit) }

  sum-above : (a : ℤ) (b : ℕ) → in_units_ℚ g a +ℚ signed (in_units g b) ≤ℚ in_units_ℚ g (a +ℤ pos b)
  unfolding in_units_ℚ in_units signed ◌+ℚ◌
  sum-above a b = record { cross = ≤ℤ-of-≡ (sym (sum-cross a (pos b) g.unit)) }

  -- ends of z that hold −m
  pub z-overlap : (p : Params) (x n : ℕ) → Negated g (log_force g p x n) log_force_width
      → Overlap g (negated (log_force g p x n)) (exact_z p x n) (exact_z p x n)
  unfolding negated
  z-overlap p x n r =
      let h = negated-holds r (log_force-holds g p x n) in
      let y = exact_log_force p x n in
      let a = below (log_force g p x n).upper in
      let b = below (log_force g p x n).lower in
      rw (exact_z-quotient p x n)
      (record {
        below = size-units-below g a y (size_below (in_grid_ℚ g y) a h.0);
        above = size-units-above g b y (size_above (in_grid_ℚ g y) b (≤ℚ-trans (wholeℚ-≤ℚ.0 (pos-nonneg a)) h.0) h.1);
      })

  -- ---- the force to 90

  pub half-young : Narrow g s → (p : Params) (x n : ℕ) → Negated g (log_force g p x n) log_force_width → 2 * (young_force g p x n).upper ≤ g.unit
  unfolding young_force exp_between negated
  half-young w p x n r = force-half g s (g.scale * below highest_force) fit.half w (below (log_force g p x n).upper) r.least

  pub young-overlap : (p : Params) (x n j : ℕ) → Negated g (log_force g p x n) log_force_width
      → Overlap g (young_force g p x n) (order_young_force p x n j).least (order_young_force p x n j).most
  unfolding young_force order_young_force
  young-overlap p x n j r = exp-overlap g s (negated (log_force g p x n)) (exact_z p x n) (exact_z p x n) j (z-overlap p x n r)

  -- ---- H

  m-overlap : (p : Params) (x n : ℕ)
      → (in_units_ℚ g (log_force g p x n).lower ≤ℚ exact_m p x n) × (exact_m p x n ≤ℚ in_units_ℚ g (log_force g p x n).upper)
  unfolding exact_m
  m-overlap p x n =
      let h = log_force-holds g p x n in (
        signed-units-below g (log_force g p x n).lower (exact_log_force p x n) h.low,
        signed-units-above g (log_force g p x n).upper (exact_log_force p x n) h.high,
      )

  fitted-overlap : Narrow g s → (p : Params) (n j y : ℕ) → least_order ≤ j → Negated g (log_force g p y n) log_force_width
      → SignedOverlap g (fitted_ends g p n y) (order_fitted p n j y)
  unfolding fitted_ends order_fitted inverse_logistic
  fitted-overlap w p n j y l r =
      let m = m-overlap p y n in
      let u = young_force g p y n in
      let o = log-overlap g u (order_young_force p y n j).least (order_young_force p y n j).most j (young-overlap p y n j r)
      (half-young w p y n r) (le_trans fit.terms l) in
      record {
        below = ≤ℚ-trans (sum_below (log_force g p y n).lower (log_lower g u.lower)) (+ℚ-mono m.0 (signed-≤ℚ.0 o.below));
        above = ≤ℚ-trans (+ℚ-mono m.1 (signed-≤ℚ.0 o.above)) (sum-above (log_force g p y n).upper (log_upper g u.upper));
      }

  -- ---- the closure

  old-overlap : Narrow g s → (p : Params) (x n j : ℕ) → least_order ≤ j
      → ((i : ℕ) → i < fitted → Negated g (log_force g p (first_fitted + i) n) log_force_width)
      → Overlap g (old_force g p x n) (order_old_force p x n j).least (order_old_force p x n j).most
  unfolding old_force order_old_force
  old-overlap w p x n j l r =
      logistic-overlap g s (closed_sum x (fitted_list g p n)) (exact_closed_sum x (order_fitted_list p n j)) j
      (closed_sum-overlap g x (fitted_list g p n) (order_fitted_list p n j) (λ i h.
      rw (fitted-at g p n i h, order-fitted-at p n j i h) (fitted-overlap w p n j (first_fitted + i) l (r i h))))

  -- ---- the force at any age, p and q

  module _ (w : Narrow g s) {p : Params} {x n : ℕ} (a : Answered p x n) (j : ℕ) (l : least_order ≤ j) where
    pub force-overlap : Overlap g (force g p x n) (order_force p x n j).least (order_force p x n j).most
    unfolding force order_force
    force-overlap =
        elim (dec_lt x first_closed) [
          | yes h ↦ rw (lt-ltb x first_closed h) (young-overlap p x n j (young-needed g a h))
          | no h ↦
              let k : first_closed ≤ x = omega arith in
              rw (le-ltb x first_closed k) (old-overlap w p x n j l (old-needed g a k))
        ]
