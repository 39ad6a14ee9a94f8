-- An annuity's exact value at rate 0 is the expectancy along the same path and one half.
use Rattle.std.specs.Prelude.{List, ℕ, pos, length}
use Rattle.std.proofs.Common.{arith}
use Rattle.number_fraction.specs.Ratio.{whole/, quotient/, ◌+/◌}
use Rattle.set_params.specs.declared.Params.{Params}
use Rattle.number_folds.specs.Exact.{exactly, half/, order_survivals_over, order_plus, order_sum_over, order_expectancy_over}
use Rattle.number_annuity.proofs.laws.Same.{Same, same_refl, same-trans, same-plus, same-assoc}
use Rattle.number_annuity.proofs.laws.NoInterest.{annuity-at-0}
use Rattle.quote_paths.specs.Path.{Place, order_factors}
use Rattle.quote_paths.specs.declared.Fold.TheVariants.{Expectancy, Annuity}
use Rattle.quote_paths.specs.Values.{order_fold_over, exact_value}

two-halves : Same (exactly (whole/ 1)) (order_plus (exactly half/) (exactly half/))
unfolding exactly order_plus half/ quotient/ whole/ ◌+/◌
two-halves = record { least = omega arith; most = omega arith }

pub annuity-without-interest : (p : Params) (path : List Place) (j : ℕ)
    → Same (exact_value (Annuity (pos 0)) p path j) (order_plus (exactly half/) (exact_value Expectancy p path j))
unfolding exact_value order_fold_over order_expectancy_over
annuity-without-interest p path j =
    let ps = order_factors p path j in
    let sums = order_sum_over (order_survivals_over ps) (length ps) in
    same-trans (annuity-at-0 ps)
    (same-trans (same-plus two-halves (same_refl sums)) (same-assoc (exactly half/) (exactly half/) sums))
