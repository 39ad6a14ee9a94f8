-- One cell of the table exactly, at order j (paper 01, "The exact value"): the grid's formulas over fractions, the ends of an
-- order taken from its brackets outward as on the grid, without rounding.
use Rattle.std.specs.Prelude.{ℕ, cond, List, ltb}
use Rattle.std.proofs.Common.{lit<}
use Rattle.number_whole.specs.Listed.{listed}
use Rattle.number_fraction.specs.Ratio.{Ratio, ◌*/◌}
use Rattle.number_fraction.specs.Bracket.{Bracket}
use Rattle.number_fraction.specs.Fraction.{Fraction, ◌+ℚ◌, quotientℚ, signed, absolute}
use Rattle.number_taylor.specs.Order.{order_lower, order_upper}
use Rattle.set_params.specs.declared.Params.{Params}
use Rattle.model_log_force.specs.Exact.{exact_log_force}
use Rattle.model_logarithm.specs.Exact.{order_log_lower, order_log_upper}
use Rattle.model_closure.specs.Weights.{fitted, first_fitted, first_closed}
use Rattle.model_logistic.specs.Units.{Interval}
use Rattle.model_logistic.specs.Exact.{order_logistic_lower, order_logistic_upper}
use Rattle.model_closure.specs.Exact.{exact_closed_sum}

-- the parameters' unit, 10^-9
abbrev pub sheet_unit : ℕ
sheet_unit = 1000000000

-- the log force, and −m of a cell in range
unfoldable pub exact_m : Params → ℕ → ℕ → Fraction
exact_m p x n = quotientℚ (exact_log_force p x n) sheet_unit (lit< tt)

unfoldable pub exact_z : Params → ℕ → ℕ → Ratio
exact_z p x n = absolute (exact_m p x n)

unfoldable pub order_young_force : Params → ℕ → ℕ → ℕ → Bracket
order_young_force p x n j = record { least = order_lower (exact_z p x n) j; most = order_upper (exact_z p x n) j }

unfoldable pub order_fitted : Params → ℕ → ℕ → ℕ → Interval
order_fitted p n j y =
    let u = order_young_force p y n j in
    record {
      least = exact_m p y n +ℚ signed (order_log_lower u.least j);
      most = exact_m p y n +ℚ signed (order_log_upper u.most j);
    }

unfoldable pub order_fitted_list : Params → ℕ → ℕ → List Interval
order_fitted_list p n j = listed (order_fitted p n j) first_fitted fitted

unfoldable pub order_old_force : Params → ℕ → ℕ → ℕ → Bracket
order_old_force p x n j =
    let G = exact_closed_sum x (order_fitted_list p n j) in
    record { least = order_logistic_lower G.least j; most = order_logistic_upper G.most j }

unfoldable pub order_force : Params → ℕ → ℕ → ℕ → Bracket
order_force p x n j = cond (ltb x first_closed) (order_young_force p x n j) (order_old_force p x n j)

-- over a part of a year, the force times that part
unfoldable pub order_force_over : Ratio → Bracket → Bracket
order_force_over part f = record { least = f.least */ part; most = f.most */ part }

unfoldable pub order_survival : Params → ℕ → ℕ → Ratio → ℕ → Bracket
order_survival p x n part j =
    let f = order_force_over part (order_force p x n j) in
    record { least = order_lower f.most j; most = order_upper f.least j }
