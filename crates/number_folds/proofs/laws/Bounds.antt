-- How great the folds can be: a survival is at most 1, and an expectancy at most one half and 1 for each factor.
use Rattle.std.specs.Prelude.{List, ℕ, zero, suc, ◌+◌, ◌*◌, ◌/◌, ◌≤◌, ◌<◌, length}
use Rattle.std.proofs.Math.Nat.{le_refl}
use Rattle.std.proofs.Common.{mul-le-mul, mul-le-mul_right, div-le_self, arith}
use Rattle.number_exponential.specs.Grid.{Grid}
use Rattle.number_exponential.specs.declared.Ends.{Ends}
use Rattle.number_exponential.proofs.laws.OutwardLaws.{outward-most}
use Rattle.number_folds.specs.Folds.{one, half, with_factor, survival_from, survival_over, survivals_over, plus, sum_over, expectancy_over}
use Rattle.number_folds.specs.laws.Each.{Each, none, also, each_take}
use Rattle.number_folds.specs.code.Code.{AtMost}

pub sum-at-most : (m : ℕ) (f : ℕ → Ends) (n : ℕ) → ((k : ℕ) → k < n → AtMost m (f k)) → AtMost (n * m) (sum_over f n)
unfolding sum_over plus
sum-at-most m f zero h = record { lower = omega arith; upper = omega arith }
sum-at-most m f (suc n) h =
    let a = sum-at-most m f n (λ k l. h k (omega arith)) in
    let b = h n (omega arith) in
    record { lower = omega (arith, a.lower, b.lower); upper = omega (arith, a.upper, b.upper) }

module _ (g : Grid) (positive : 0 < g.unit) where
  -- a survival of at most 1, with one factor of at most 1 more
  pub with-factor-at-most : {s p : Ends} → AtMost g.unit s → AtMost g.unit p → AtMost g.unit (with_factor g s p)
  unfolding with_factor
  with-factor-at-most a b =
      let m = outward-most _ _ positive g.unit (mul-le-mul a.lower b.lower) (mul-le-mul a.upper b.upper) in
      record { lower = m.0; upper = m.1 }

  from-at-most : {s : Ends} {ps : List Ends} → AtMost g.unit s → Each (AtMost g.unit) ps
      → AtMost g.unit (survival_from g s ps)
  unfolding survival_from
  from-at-most a none = a
  from-at-most {s = s} a (also {x = x} {xs = xs} b h) = from-at-most {s = with_factor g s x} (with-factor-at-most a b) h

  pub survival-at-most : {ps : List Ends} → Each (AtMost g.unit) ps → AtMost g.unit (survival_over g ps)
  unfolding survival_over one
  survival-at-most h = from-at-most (record { lower = le_refl g.unit; upper = le_refl g.unit }) h

  pub expectancy-at-most : {ps : List Ends} → Each (AtMost g.unit) ps
      → AtMost (g.unit / 2 + length ps * g.unit) (expectancy_over g ps)
  unfolding expectancy_over half plus
  expectancy-at-most {ps} h =
      let a = sum-at-most g.unit (survivals_over g ps) (length ps) (λ k l. survival-at-most (each_take (suc k) h)) in
      record { lower = omega (arith, a.lower); upper = omega (arith, a.upper) }

  -- and so, over at most m factors, at most m + 1
  pub years-at-most : {n : ℕ} (m : ℕ) {e : Ends} → n ≤ m → AtMost (g.unit / 2 + n * g.unit) e → AtMost (suc m * g.unit) e
  years-at-most m l h =
      let k = mul-le-mul_right g.unit l in
      let d = div-le_self g.unit 2 in
      record { lower = omega (arith, h.lower); upper = omega (arith, h.upper) }
