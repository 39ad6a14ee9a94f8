-- The value of a quote as a fold over the factors of its path: on a grid, and exactly as a bracket for each order.
use Rattle.std.specs.Prelude.{List, ℕ, nat_abs}
use Rattle.number_fraction.specs.Ratio.{complement}
use Rattle.number_fraction.specs.Bracket.{Bracket}
use Rattle.number_exponential.specs.Grid.{Grid}
use Rattle.number_exponential.specs.declared.Ends.{Ends}
use Rattle.set_params.specs.declared.Params.{Params}
use Rattle.number_exact.specs.Value.{Exact}
use Rattle.number_folds.specs.Folds.{survival_over, expectancy_over}
use Rattle.number_folds.specs.Exact.{order_survival_over, order_expectancy_over}
use Rattle.number_annuity.specs.Annuity.{annuity_over}
use Rattle.number_annuity.specs.Exact.{order_annuity_over}
use Rattle.model_force.specs.Force.{death_of}
use Rattle.quote_paths.specs.declared.Fold.{Fold}
use Rattle.quote_paths.specs.declared.Fold.TheVariants.{Death, Survival, Expectancy, Annuity}
use Rattle.quote_paths.specs.Path.{Place, factors, order_factors}

-- what is taken of a path's factors: the chance to die within it, the chance to survive it, the expectancy along it, or
-- at a rate "the price itself: 1 paid now and on each 1 January while alive" (paper 02, E1)
unfoldable pub fold_over : Fold → Grid → List Ends → Ends
fold_over Death g ps = death_of g (survival_over g ps)
fold_over Survival g ps = survival_over g ps
fold_over Expectancy g ps = expectancy_over g ps
fold_over (Annuity rate) g ps = annuity_over g (nat_abs rate) ps

-- 1 less a bracket, its ends exchanged
unfoldable pub order_death_of : Bracket → Bracket
order_death_of s = record { least = complement s.most; most = complement s.least }

unfoldable pub order_fold_over : Fold → List Bracket → Bracket
order_fold_over Death ps = order_death_of (order_survival_over ps)
order_fold_over Survival ps = order_survival_over ps
order_fold_over Expectancy ps = order_expectancy_over ps
order_fold_over (Annuity rate) ps = order_annuity_over (nat_abs rate) ps

-- of a set along a path
unfoldable pub grid_value : Fold → Grid → Params → List Place → Ends
grid_value f g p path = fold_over f g (factors g p path)

unfoldable pub exact_value : Fold → Params → List Place → Exact
exact_value f p path = λ (j : ℕ). order_fold_over f (order_factors p path j)
