-- That p, over the year or a part of it, and q hold every order's bracket.
use Rattle.std.specs.Prelude.{ℕ, ◌*◌, ◌≤◌}
use Rattle.std.proofs.Common.{le_refl}
use Rattle.number_fraction.specs.Ratio.{Ratio, complement, ◌*/◌}
use Rattle.number_fraction.proofs.laws.RatioLaws.{complement-reverse}
use Rattle.number_taylor.specs.Order.{least_order}
use Rattle.number_exponential.specs.Grid.{Grid, in_units}
use Rattle.number_exponential.proofs.laws.Facts.{Sound}
use Rattle.number_exponential.proofs.laws.WidthFacts.{Narrow}
use Rattle.number_exponential.proofs.laws.Overlap.{Overlap}
use Rattle.number_exponential.proofs.laws.Holds.{exp-overlap}
use Rattle.number_exponential.proofs.laws.OutwardLaws.{outward-holds}
use Rattle.set_params.specs.declared.Params.{Params}
use Rattle.model_force.specs.Force.{death_of}
use Rattle.model_mortality.specs.Cell.{force, whole_year, force_over, survival}
use Rattle.model_mortality.proofs.laws.Death.{death}
use Rattle.model_mortality.specs.Exact.{order_force, order_force_over, order_survival}
use Rattle.model_mortality.proofs.laws.OrderDeath.{order_death}
use Rattle.model_mortality.proofs.laws.Facts.{Fit}
use Rattle.model_mortality.proofs.laws.Answered.{Answered}
use Rattle.model_mortality.proofs.laws.Holds.{force-overlap}

module _ (g : Grid) (s : Sound g) (fit : Fit g) where
  module _ (w : Narrow g s) {p : Params} {x n : ℕ} (a : Answered p x n) (j : ℕ) (l : least_order ≤ j) where
    -- over a part of the year
    pub survival-holds : (part : Ratio)
        → Overlap g (survival g p x n part) (order_survival p x n part j).least (order_survival p x n part j).most
    unfolding survival force_over order_survival order_force_over
    survival-holds part =
        exp-overlap g s (force_over part (force g p x n)) ((order_force p x n j).least */ part) ((order_force p x n j).most */ part) j
        (outward-holds g part.den part.positive part.num part.num part part (force-overlap g s fit w a j l) (le_refl _) (le_refl _))

    -- q holds every order's bracket
    pub death-holds : Overlap g (death g p x n) (order_death p x n j).least (order_death p x n j).most
    unfolding death death_of order_death in_units complement
    death-holds =
        let h = survival-holds whole_year in record { below = complement-reverse h.above; above = complement-reverse h.below }
