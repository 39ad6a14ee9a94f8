-- The values along an answered path on a grid hold every order's: their ends overlap its bracket.
use mathlib.Core.List.{List, Forall₂}
use Rattle.std.specs.Prelude.{ℕ, ◌≤◌, nat_abs}
use Rattle.number_fraction.specs.Ratio.{complement}
use Rattle.number_fraction.proofs.laws.RatioLaws.{complement-reverse}
use Rattle.number_fraction.specs.Bracket.{Bracket}
use Rattle.number_taylor.specs.Order.{least_order}
use Rattle.number_exponential.specs.Grid.{Grid, in_units}
use Rattle.number_exponential.specs.declared.Ends.{Ends}
use Rattle.number_exponential.proofs.laws.Overlap.{Overlap}
use Rattle.set_params.specs.declared.Params.{Params}
use Rattle.number_folds.specs.laws.Each.{each-places}
use Rattle.number_folds.proofs.laws.Holds.{Over, survival-holds, expectancy-holds}
use Rattle.number_annuity.proofs.laws.Holds.{annuity-holds}
use Rattle.model_force.specs.Force.{death_of}
use Rattle.model_mortality.proofs.laws.CellHolds as cell
use Rattle.quote_paths.specs.Path.{Place, factors, order_factors}
use Rattle.quote_paths.specs.declared.Fold.{Fold}
use Rattle.quote_paths.specs.declared.Fold.TheVariants.{Death, Survival, Expectancy, Annuity}
use Rattle.quote_paths.specs.Values.{fold_over, order_death_of, order_fold_over, grid_value, exact_value}
use Rattle.quote_paths.proofs.laws.Answers.{AnsweredPath}
use Rattle.quote_paths.proofs.laws.Facts.{Facts}

module _ (g : Grid) where
  -- unit less the ends, exchanged, over 1 less the bracket
  pub death-of-holds : {e : Ends} {b : Bracket} → Over g e b → Over g (death_of g e) (order_death_of b)
  unfolding death_of in_units complement order_death_of
  death-of-holds h = record { below = complement-reverse h.above; above = complement-reverse h.below }

  -- each fold over factors that hold an order's
  pub fold-holds : (f : Fold) {es : List Ends} {bs : List Bracket} → Forall₂ (Over g) es bs
      → Over g (fold_over f g es) (order_fold_over f bs)
  unfolding fold_over order_fold_over
  fold-holds Death h = death-of-holds (survival-holds g h)
  fold-holds Survival h = survival-holds g h
  fold-holds Expectancy h = expectancy-holds g h
  fold-holds (Annuity rate) h = annuity-holds g (nat_abs rate) h

module _ {g : Grid} {t : ℕ} (f : Facts g t) {p : Params} {path : List Place} (a : AnsweredPath p path) (j : ℕ)
    (l : least_order ≤ j) where
  pub factors-hold : Forall₂ (Over g) (factors g p path) (order_factors p path j)
  unfolding factors order_factors
  factors-hold = each-places _ _ (λ c h. cell.survival-holds g f.sound f.fit f.narrow h.cell j l c.part) a

  pub value-holds : (k : Fold) → Overlap g (grid_value k g p path) (exact_value k p path j).least (exact_value k p path j).most
  unfolding grid_value exact_value
  value-holds k = fold-holds g k factors-hold
