-- The folds on a grid hold every order's: where each factor's ends overlap its bracket, the survival's and the
-- expectancy's overlap theirs.
use Rattle.std.specs.Prelude.{◌≡◌, length}
use mathlib.Core.List.{List, Forall₂}
use Prim.Native.Nat.{ℕ, zero, suc, ◌*◌, ◌/◌, ◌<◌}
use Rattle.std.proofs.Common.{le_refl}
use native.Mathlib.Omega.{arith}
use Rattle.number_fraction.specs.Ratio.{whole/, quotient/}
use Rattle.number_fraction.proofs.laws.RatioLaws.{≤/-trans, +/-mono}
use Rattle.number_fraction.specs.Bracket.{Bracket}
use Rattle.number_fraction.proofs.laws.Places.{places-length, places-take}
use Rattle.number_exponential.specs.Grid.{Grid, in_units}
use Rattle.number_exponential.specs.declared.Ends.{Ends}
use Rattle.number_exponential.proofs.laws.Overlap.{Overlap}
use Rattle.number_exponential.proofs.laws.OutwardLaws.{units-over, units-within, outward-holds}
use Rattle.number_folds.specs.Folds.{one, half, with_factor, survival_from, survival_over, survivals_over, plus, sum_over, expectancy_over}
use Rattle.number_folds.specs.Exact.{
  exactly,
  half/,
  order_with_factor,
  order_survival_from,
  order_survival_over,
  order_survivals_over,
  order_plus,
  order_sum_over,
  order_expectancy_over,
}

module _ (g : Grid) where
  -- the ends of a value overlap a bracket of it
  abbrev pub Over : Ends → Bracket → Type 0
  Over e b = Overlap g e b.least b.most

  -- ---- 0, 1 and one half

  none_over : Over (record { lower = 0; upper = 0 }) (exactly (whole/ 0))
  unfolding exactly in_units whole/
  none_over = record { below = record { cross = omega arith }; above = record { cross = omega arith } }

  pub one-over : Over (one g) (exactly (whole/ 1))
  unfolding one exactly in_units whole/
  one-over = record { below = record { cross = omega arith }; above = record { cross = omega arith } }

  -- one half is a whole number of units
  half-whole : 2 * (g.unit / 2) ≡ g.unit
  half-whole = omega (arith, g.scaled)

  pub half_over : Over (half g) (exactly half/)
  unfolding half exactly half/ in_units whole/ quotient/
  half_over =
      let e = half-whole in
      record { below = record { cross = omega arith }; above = record { cross = omega arith } }

  -- ---- one factor, and one summand

  pub with-factor-holds : {e p : Ends} {b q : Bracket} → Over e b → Over p q → Over (with_factor g e p) (order_with_factor b q)
  unfolding with_factor order_with_factor in_units
  with-factor-holds {p = p} {q = q} h k =
      outward-holds g g.unit g.positive p.lower p.upper q.least q.most h k.below.cross k.above.cross

  pub plus-holds : {e p : Ends} {b q : Bracket} → Over e b → Over p q → Over (plus e p) (order_plus b q)
  unfolding plus order_plus
  plus-holds {e} {p} h k =
      record {
        below = ≤/-trans (units-within g e.lower p.lower (le_refl _)) (+/-mono h.below k.below);
        above = ≤/-trans (+/-mono h.above k.above) (units-over g e.upper p.upper (le_refl _));
      }

  pub sum-holds : (f : ℕ → Ends) (h : ℕ → Bracket) (n : ℕ) → ((k : ℕ) → k < n → Over (f k) (h k))
      → Over (sum_over f n) (order_sum_over h n)
  unfolding sum_over order_sum_over
  sum-holds f h zero o = none_over
  sum-holds f h (suc n) o = plus-holds (sum-holds f h n (λ k l. o k (omega arith))) (o n (omega arith))

  -- ---- the folds

  from-holds : {e : Ends} {b : Bracket} {es : List Ends} {bs : List Bracket} → Over e b → Forall₂ Over es bs
      → Over (survival_from g e es) (order_survival_from b bs)
  unfolding survival_from order_survival_from
  from-holds h Forall₂.nil = h
  from-holds {e = e} {b = b} h (Forall₂.cons {a = x} {b = y} k ks) =
      from-holds {e = with_factor g e x} {b = order_with_factor b y} (with-factor-holds h k) ks

  pub survival-holds : {es : List Ends} {bs : List Bracket} → Forall₂ Over es bs
      → Over (survival_over g es) (order_survival_over bs)
  unfolding survival_over order_survival_over
  survival-holds h = from-holds one-over h

  pub expectancy-holds : {es : List Ends} {bs : List Bracket} → Forall₂ Over es bs
      → Over (expectancy_over g es) (order_expectancy_over bs)
  unfolding expectancy_over order_expectancy_over
  expectancy-holds {es} {bs} h =
      rw (← places-length h)
      (plus-holds half_over
      (sum-holds (survivals_over g es) (order_survivals_over bs) (length es)
      (λ k l. survival-holds (places-take (suc k) h))))
