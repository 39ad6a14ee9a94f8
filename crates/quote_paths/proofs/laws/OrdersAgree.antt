-- The values along an answered path agree at any two orders that count.
use mathlib.Core.List.{List, Forall₂}
use Rattle.std.specs.Prelude.{ℕ, ◌≤◌, nat_abs}
use Rattle.number_fraction.proofs.laws.RatioLaws.{complement-reverse}
use Rattle.number_fraction.specs.Bracket.{Bracket}
use Rattle.number_fraction.proofs.laws.RatioTerms.{NotAbove}
use Rattle.number_taylor.specs.Order.{least_order}
use Rattle.set_params.specs.declared.Params.{Params}
use Rattle.number_exact.specs.Value.{Agrees}
use Rattle.number_folds.specs.laws.Each.{each-places}
use Rattle.number_folds.proofs.laws.OrdersAgree.{survival-agrees, expectancy-agrees}
use Rattle.number_annuity.proofs.laws.OrdersAgree.{annuity-agrees}
use Rattle.model_mortality.proofs.laws.OrdersAgree as cell
use Rattle.quote_paths.specs.Path.{Place, order_factors}
use Rattle.quote_paths.specs.declared.Fold.{Fold}
use Rattle.quote_paths.specs.declared.Fold.TheVariants.{Death, Survival, Expectancy, Annuity}
use Rattle.quote_paths.specs.Values.{order_death_of, order_fold_over, exact_value}
use Rattle.quote_paths.proofs.laws.Answers.{AnsweredPath}

-- 1 less two brackets, their ends exchanged
pub death-of-agrees : {a b : Bracket} → NotAbove b a → NotAbove (order_death_of a) (order_death_of b)
unfolding order_death_of
death-of-agrees h = record { reaches = complement-reverse h.reaches }

-- each fold over factors that agree
fold-agrees : (f : Fold) {ps qs : List Bracket} → Forall₂ NotAbove ps qs → Forall₂ NotAbove qs ps
    → NotAbove (order_fold_over f ps) (order_fold_over f qs)
unfolding order_fold_over
fold-agrees Death h k = death-of-agrees (survival-agrees k)
fold-agrees Survival h k = survival-agrees h
fold-agrees Expectancy h k = expectancy-agrees h
fold-agrees (Annuity rate) h k = annuity-agrees (nat_abs rate) h

module _ {p : Params} {path : List Place} (a : AnsweredPath p path) where
  pub factors-agree : (i j : ℕ) → least_order ≤ i → least_order ≤ j
      → Forall₂ NotAbove (order_factors p path i) (order_factors p path j)
  unfolding order_factors
  factors-agree i j k l = each-places _ _ (λ c h. cell.survival-agrees h.cell c.part i j k l) a

  pub value-agrees : (f : Fold) → Agrees (exact_value f p path)
  unfolding exact_value
  value-agrees f = record { agree = λ i j k l. (fold-agrees f (factors-agree i j k l) (factors-agree j i l k)).reaches }
