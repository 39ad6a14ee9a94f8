-- The expectancy of a status one factor further, as a loop takes it.
use Rattle.std.specs.Prelude.{◌≡◌, List, ℕ, suc, ◌≤◌, ◌<◌, length, take}
use Rattle.std.proofs.Math.Path.{ap}
use Rattle.std.proofs.Common.{sym, ◌∙◌, arith, length-take-le}
use Rattle.std.proofs.Math.Seq.{take-take}
use Rattle.number_exponential.specs.Grid.{Grid}
use Rattle.number_exponential.specs.declared.Ends.{Ends}
use Rattle.number_folds.specs.Folds.{half, plus, sum_over}
use Rattle.number_folds.proofs.laws.Steps.{sum_same, plus_assoc}
use Rattle.quote_couple_kinds.specs.declared.Status.{Status}
use Rattle.quote_two_lives.specs.TwoLives.{status_over, statuses_over, status_expectancy_over}

module _ (status : Status) (g : Grid) (ps ps' : List Ends) where
  -- over the first n factors, by the beginnings of them all
  beginnings : (n : ℕ) → n ≤ length ps
      → status_expectancy_over status g (take n ps) (take n ps') ≡ plus (half g) (sum_over (statuses_over status g ps ps') n)
  unfolding status_expectancy_over
  beginnings n h =
      ap (plus (half g))
      (ap (sum_over (statuses_over status g (take n ps) (take n ps'))) (length-take-le n ps h)
      ∙ sum_same _ _ n (λ k l. rw (take-take (suc k) n ps l, take-take (suc k) n ps' l)))

  pub expectancy-next : (i : ℕ) → i < length ps
      → status_expectancy_over status g (take (suc i) ps) (take (suc i) ps')
      ≡ plus (status_expectancy_over status g (take i ps) (take i ps')) (status_over status g (take (suc i) ps) (take (suc i) ps'))
  unfolding sum_over
  expectancy-next i l =
      beginnings (suc i) l ∙ plus_assoc (half g) _ _
      ∙ ap (λ (e : Ends). plus e (status_over status g (take (suc i) ps) (take (suc i) ps'))) (sym (beginnings i (omega arith)))
