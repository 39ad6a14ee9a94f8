-- The folds taken in parts and one factor further, as a loop takes them.
use Rattle.std.specs.Prelude.{◌≡◌, ℕ, zero, suc, ◌/◌, ◌≤◌, ◌<◌, length, take, get_or}
use Rattle.std.proofs.Math.Path.{refl, ap, ap₂}
use Rattle.std.proofs.Common.{sym, ◌∙◌, add_assoc, mul_comm, arith, take-suc, take-take, length-take-le}
use mathlib.Core.List.{List, [], ◌∷◌, ◌++◌}
use Rattle.number_whole.specs.Division.{ceil_div_ℕ}
use Rattle.number_whole.proofs.laws.DivisionLaws.{floorℕ-exact, ceilℕ-exact}
use Rattle.number_exponential.specs.Grid.{Grid}
use Rattle.number_exponential.specs.declared.Ends.{Ends}
use Rattle.number_exponential.specs.Outward.{outward_over}
use Rattle.number_folds.specs.Folds.{one, half, with_factor, survival_from, survival_over, survivals_over, plus, sum_over, expectancy_over}

-- two sums of equal terms
pub sum_same : (f h : ℕ → Ends) (n : ℕ) → ((k : ℕ) → k < n → f k ≡ h k) → sum_over f n ≡ sum_over h n
unfolding sum_over
sum_same f h zero e = refl
sum_same f h (suc n) e = ap₂ plus (sum_same f h n (λ k l. e k (omega arith))) (e n (omega arith))

pub plus_assoc : (a b c : Ends) → plus a (plus b c) ≡ plus (plus a b) c
unfolding plus
plus_assoc a b c =
    cc (add_assoc a.lower b.lower c.lower, add_assoc a.upper b.upper c.upper)

module _ (g : Grid) where
  -- the survival over two lists in a row goes on from that over the first
  pub survival-append : (s : Ends) (ps qs : List Ends) → survival_from g s (ps ++ qs) ≡ survival_from g (survival_from g s ps) qs
  unfolding survival_from
  survival-append s [] qs = refl
  survival-append s (p ∷ ps) qs = survival-append (with_factor g s p) ps qs

  -- 1 with one factor more is that factor, and so is the survival over it
  pub one-with-factor : 0 < g.unit → (e : Ends) → with_factor g (one g) e ≡ e
  unfolding with_factor outward_over one
  one-with-factor positive e =
      ap₂ (λ (l u : ℕ). record { lower = l; upper = u })
      (ap (λ (m : ℕ). m / g.unit) (mul_comm g.unit e.lower) ∙ floorℕ-exact e.lower positive)
      (ap (λ (m : ℕ). ceil_div_ℕ m g.unit) (mul_comm g.unit e.upper) ∙ ceilℕ-exact e.upper positive)

  pub survival-one : 0 < g.unit → (e : Ends) → survival_over g (e ∷ []) ≡ e
  unfolding survival_over survival_from
  survival-one positive e = one-with-factor positive e

  -- the survival over one factor more
  pub survival-next : (ps : List Ends) (i : ℕ) → i < length ps → (d : Ends)
      → survival_over g (take (suc i) ps) ≡ with_factor g (survival_over g (take i ps)) (get_or ps i d)
  unfolding survival_over survival_from
  survival-next ps i l d =
      ap (survival_from g (one g)) (take-suc ps i d l) ∙ survival-append (one g) (take i ps) (get_or ps i d ∷ [])

  -- the expectancy over the first n factors, by the beginnings of them all
  beginnings : (ps : List Ends) (n : ℕ) → n ≤ length ps
      → expectancy_over g (take n ps) ≡ plus (half g) (sum_over (survivals_over g ps) n)
  unfolding expectancy_over
  beginnings ps n h =
      ap (plus (half g))
      (ap (sum_over (survivals_over g (take n ps))) (length-take-le n ps h)
      ∙ sum_same _ _ n (λ k l. ap (survival_over g) (take-take (suc k) n ps l)))

  -- the expectancy over one factor more
  pub expectancy-next : (ps : List Ends) (i : ℕ) → i < length ps
      → expectancy_over g (take (suc i) ps) ≡ plus (expectancy_over g (take i ps)) (survival_over g (take (suc i) ps))
  unfolding sum_over
  expectancy-next ps i l =
      beginnings ps (suc i) l ∙ plus_assoc (half g) _ _
      ∙ ap (λ (e : Ends). plus e (survival_over g (take (suc i) ps))) (sym (beginnings ps i (omega arith)))
