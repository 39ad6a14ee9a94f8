-- How far apart a cell's ends lie: the force to 90, H, G, the force above 90, and q.
use Rattle.std.specs.Prelude.{◌≡◌, ℕ, ◌+◌, ◌-◌, ◌*◌, ◌/◌, ◌≤◌, ◌<◌, ℤ, pos, ◌+ℤ◌, ◌≤ℤ◌}
use Rattle.std.proofs.Common.{le_trans, le-add_right, le_of_mul-le-mul_right, mul-le-mul_left, mul-le-mul_right, lt-ltb, le-ltb}
use Rattle.std.proofs.Math.Nat.{add-sub_of_le}
use native.Mathlib.Omega.{arith}
use Rattle.number_whole.proofs.laws.Order.{+ℤ-mono, pos-mono}
use Rattle.number_whole.proofs.laws.Split.{split, split-add}
use Rattle.number_fraction.specs.Ratio.{Ratio, ◌≤/◌, whole/}
use Rattle.number_fraction.proofs.laws.RatioLaws.{≤/-trans}
use Rattle.number_exponential.specs.Grid.{Grid, in_units}
use Rattle.number_exponential.specs.declared.Ends.{Ends}
use Rattle.number_exponential.specs.Exponential.{exp_between, exp_lower, exp_upper}
use Rattle.number_exponential.proofs.laws.Facts.{Sound}
use Rattle.number_exponential.proofs.laws.WidthFacts.{Narrow, exp_width}
use Rattle.number_exponential.proofs.laws.Width.{exp-width}
use Rattle.number_exponential.proofs.laws.OutwardLaws.{outward-ordered, outward-width}
use Rattle.set_params.specs.declared.Params.{Params}
use Rattle.model_log_force.specs.LogForce.{log_force}
use Rattle.model_log_force.specs.code.Within.{log_force_width, Negated}
use Rattle.model_log_force.proofs.laws.WidthLaws.{log_force-width, log_force-ordered}
use Rattle.model_logarithm.specs.Logarithm.{log_lower, log_upper, inverse_logistic}
use Rattle.model_logarithm.proofs.laws.WidthFacts.{log_width}
use Rattle.model_logarithm.proofs.laws.Sums.{log-sum-monotone}
use Rattle.model_logarithm.proofs.laws.Holds.{terms-below, terms-above}
use Rattle.model_logarithm.proofs.laws.Width.{log-width}
use Rattle.model_closure.specs.Weights.{first_fitted, fitted, first_closed, weight_unit}
use Rattle.model_closure.specs.code.Totals.{most_size}
use Rattle.model_logistic.proofs.laws.RelativeWidth.{exp-ordered}
use Rattle.model_logistic.proofs.laws.WidthFacts.{Fine}
use Rattle.model_logistic.proofs.laws.LogisticWidth.{logistic-width, logistic-ordered}
use Rattle.model_closure.specs.Closure.{closed_sum}
use Rattle.model_closure.proofs.laws.SumWidth.{closed_sum-width, closed_sum-ordered}
use Rattle.model_force.specs.Force.{negated, death_of}
use Rattle.model_mortality.specs.Cell.{young_force, fitted_ends, fitted_list, old_force, force, whole_year, force_over, survival}
use Rattle.model_mortality.proofs.laws.Death.{death}
use Rattle.model_mortality.proofs.laws.Facts.{Fit}
use Rattle.model_mortality.proofs.laws.Answered.{Answered}
use Rattle.model_mortality.proofs.laws.Needed.{young-needed, old-needed}
use Rattle.model_mortality.proofs.laws.Holds.{half-young, fitted-at}

-- two ends in order, at most w apart
pub record Narrowed (e : Ends) (w : ℕ) : Type 0 where
  pub ordered : e.lower ≤ e.upper
  pub width : e.upper ≤ e.lower + w

pub narrowed-more : {e : Ends} {w v : ℕ} → w ≤ v → Narrowed e w → Narrowed e v
narrowed-more h n = record { ordered = n.ordered; width = omega (arith, n.width) }

-- ---- the widths, in units: of the force to 90, of H, of G, of the force above 90, and of q

unfoldable pub young_width : Grid → ℕ
young_width g = log_force_width + exp_width g

unfoldable pub fitted_width : Grid → ℕ
fitted_width g = log_force_width + (2 * young_width g + log_width g)

unfoldable pub sum_width : Grid → ℕ
sum_width g = most_size * fitted_width g / weight_unit + 2

unfoldable pub old_width : Grid → ℕ
old_width g = sum_width g / 4 + exp_width g + 3

signed-sum : (a b : ℤ) (l u c d : ℕ) → b ≤ℤ (a +ℤ pos c) → u ≤ l + d → (b +ℤ pos u) ≤ℤ ((a +ℤ pos l) +ℤ pos (c + d))
signed-sum a b l u c d h k = omega (split, split-add a (pos c), split-add b (pos u), split-add a (pos l), split-add (a +ℤ pos l) (pos (c + d)))

regroup : (u l a b c : ℕ) → u ≤ l + a + b + c → u ≤ l + (a + b + c)
regroup u l a b c h = omega arith

units-le : (a b U : ℕ) → 0 < U → a * U ≤ b * U → a ≤ b
units-le a b U p h = le_of_mul-le-mul_right h p

-- the logarithm's ends of l ≤ u are in order
log-ordered : (g : Grid) (s : Sound g) (l u : ℕ) → l ≤ u → log_lower g l ≤ log_upper g u
unfolding log_lower log_upper in_units
log-ordered g s l u h =
    let m : in_units g l ≤/ in_units g u = record { cross = mul-le-mul_right g.unit h } in
    let k = ≤/-trans (terms-below g l g.log_terms) (≤/-trans (log-sum-monotone g.log_terms m) (terms-above g u g.log_terms)) in
    le_trans (units-le _ _ g.unit g.positive k.cross) (le-add_right _ _)

-- unit − p, ends exchanged, is no wider
complement-narrowed : (U : ℕ) (e : Ends) (w : ℕ) → Narrowed e w → Narrowed (record { lower = U - e.upper; upper = U - e.lower }) w
complement-narrowed U e w h = record { ordered = omega (arith, h.ordered); width = omega (arith, h.width) }

-- a part of a force is no wider, but for the rounding
part-narrowed : (part : Ratio) (f : Ends) (w : ℕ) → part ≤/ whole_year → Narrowed f w → Narrowed (force_over part f) (w + 2)
unfolding force_over whole/
part-narrowed part f w small h =
    let m : part.num ≤ part.den = omega (arith, small.cross) in
    record {
      ordered = outward-ordered (f.lower * part.num) (f.upper * part.num) part.positive (mul-le-mul_right part.num h.ordered);
      width =
          outward-width (f.lower * part.num) (f.upper * part.num) part.positive w
          (omega (arith, mul-le-mul_right part.num h.width, mul-le-mul_left w m));
    }

unfoldable pub young_death_width : Grid → ℕ
young_death_width g = young_width g + 2 + exp_width g

unfoldable pub old_death_width : Grid → ℕ
old_death_width g = old_width g + 2 + exp_width g

module _ (g : Grid) (s : Sound g) (w : Narrow g s) where
  -- the exponential adds its own width
  exp-narrowed : (z : Ends) (d : ℕ) → Narrowed z d → Narrowed (exp_between g z) (d + exp_width g)
  unfolding exp_between
  exp-narrowed z d h =
      let e : z.lower + (z.upper - z.lower) ≡ z.upper = add-sub_of_le h.ordered in
      record {
        ordered = exp-ordered g s z.lower z.upper h.ordered;
        width =
            let k = exp-width g s w z.lower (z.upper - z.lower) in
            let k' : exp_upper g z.lower ≤ exp_lower g z.upper + (z.upper - z.lower) + exp_width g = rw e at k in
            omega (arith, h.ordered, h.width);
      }

  young-narrowed : (p : Params) (x n : ℕ) → Negated g (log_force g p x n) log_force_width → Narrowed (young_force g p x n) (young_width g)
  unfolding young_force young_width negated
  young-narrowed p x n r =
      exp-narrowed (negated (log_force g p x n)) log_force_width (record { ordered = r.ordered; width = r.width })

  module _ (fit : Fit g) where
    fitted-width : (p : Params) (n y : ℕ) → Negated g (log_force g p y n) log_force_width
        → (log_force g p y n).upper ≤ℤ ((log_force g p y n).lower +ℤ pos log_force_width)
        → (fitted_ends g p n y).upper ≤ℤ ((fitted_ends g p n y).lower +ℤ pos (fitted_width g))
    unfolding fitted_ends inverse_logistic fitted_width
    fitted-width p n y r m =
        let u = young_force g p y n in
        let k = young-narrowed p y n r in
        let l : log_upper g u.upper ≤ log_lower g u.lower + (2 * young_width g + log_width g) =
        omega (
          arith,
          log-width g g.positive u.upper u.lower (young_width g) (half-young g s fit w p y n r)
              k.ordered k.width fit.log,
        ) in
        signed-sum (log_force g p y n).lower (log_force g p y n).upper (log_lower g u.lower) (log_upper g u.upper) log_force_width _ m l

    module _ (small : Fine g (sum_width g)) {p : Params} {x n : ℕ} (a : Answered p x n) where
      fitted-ordered : first_closed ≤ x → (i : ℕ) → i < fitted
          → (fitted_ends g p n (first_fitted + i)).lower ≤ℤ (fitted_ends g p n (first_fitted + i)).upper
      unfolding fitted_ends inverse_logistic
      fitted-ordered l i h =
          let y = first_fitted + i in
          let k = young-narrowed p y n (old-needed g a l i h) in
          +ℤ-mono (log_force-ordered g p a.limits (omega arith) a.year)
          (pos-mono (log-ordered g s (young_force g p y n).lower (young_force g p y n).upper k.ordered))

      old-force-width : first_closed ≤ x → (old_force g p x n).upper ≤ (old_force g p x n).lower + old_width g
      unfolding old_force old_width sum_width
      old-force-width l =
          regroup _ _ _ _ _
          (logistic-width g s w (closed_sum x (fitted_list g p n)) (sum_width g)
          (closed_sum-width x (fitted_list g p n) (fitted_width g) l a.age (λ i h.
          rw (fitted-at g p n i h) (fitted-width p n (first_fitted + i) (old-needed g a l i h)
          (log_force-width g p a.limits (omega arith) a.year)))) small)

      old-narrowed : first_closed ≤ x → Narrowed (old_force g p x n) (old_width g)
      unfolding old_force
      old-narrowed l =
          record {
            ordered =
                logistic-ordered g s (closed_sum x (fitted_list g p n)) (closed_sum-ordered x (fitted_list g p n) (λ i h.
                rw (fitted-at g p n i h) (fitted-ordered l i h)));
            width = old-force-width l;
          }

      -- the chance to live through a part of the year at an age to 90, and at one above; q is no wider
      module _ {part : Ratio} (within : part ≤/ whole_year) where
        pub young-survival-width : x < first_closed → Narrowed (survival g p x n part) (young_death_width g)
        unfolding survival force young_death_width
        young-survival-width l =
            rw (lt-ltb x first_closed l)
            (exp-narrowed (force_over part (young_force g p x n)) (young_width g + 2)
            (part-narrowed part (young_force g p x n) (young_width g) within (young-narrowed p x n (young-needed g a l))))

        pub old-survival-width : first_closed ≤ x → Narrowed (survival g p x n part) (old_death_width g)
        unfolding survival force old_death_width
        old-survival-width l =
            rw (le-ltb x first_closed l)
            (exp-narrowed (force_over part (old_force g p x n)) (old_width g + 2)
            (part-narrowed part (old_force g p x n) (old_width g) within (old-narrowed l)))

pub death-narrowed : (g : Grid) (p : Params) (x n w : ℕ) → Narrowed (survival g p x n whole_year) w → Narrowed (death g p x n) w
unfolding death death_of
death-narrowed g p x n w h = complement-narrowed g.unit (survival g p x n whole_year) w h
