-- One cell of the table on a grid (paper 01, "The grid", from the log force to q; paper 02, E6): the force at ages to 90 and
-- above, the chance to live through the year or a part of it, and q.
-- Year n is 2013 + n.
use Rattle.std.specs.Prelude.{ℕ, zero, suc, ◌+◌, ◌*◌, Bool, true, cond, ◌&&◌, List, ltb}
use Rattle.number_whole.specs.Listed.{listed}
use Rattle.number_fraction.specs.Ratio.{Ratio, whole/}
use Rattle.number_exponential.specs.Grid.{Grid}
use Rattle.number_whole.specs.declared.SignedEnds.{SignedEnds}
use Rattle.number_exponential.specs.declared.Ends.{Ends}
use Rattle.number_exponential.specs.Exponential.{exp_between}
use Rattle.number_exponential.specs.Outward.{outward_over}
use Rattle.set_params.specs.declared.Params.{Params}
use Rattle.model_log_force.specs.LogForce.{log_force, in_range}
use Rattle.model_logarithm.specs.Logarithm.{inverse_logistic}
use Rattle.model_closure.specs.Weights.{fitted, first_fitted, first_closed}
use Rattle.model_logistic.specs.Logistic.{logistic}
use Rattle.model_closure.specs.Closure.{closed_sum}
use Rattle.model_force.specs.Force.{negated}

-- "Force at ages to 90: exponential of m."
unfoldable pub young_force : Grid → Params → ℕ → ℕ → Ends
young_force g p x n = exp_between g (negated (log_force g p x n))

-- H at age y, and at the ages 80 to 90
unfoldable pub fitted_ends : Grid → Params → ℕ → ℕ → SignedEnds
fitted_ends g p n y = inverse_logistic g (log_force g p y n) (young_force g p y n)

unfoldable pub fitted_list : Grid → Params → ℕ → List SignedEnds
fitted_list g p n = listed (fitted_ends g p n) first_fitted fitted

-- the force above 90, by the closure
unfoldable pub old_force : Grid → Params → ℕ → ℕ → Ends
old_force g p x n = logistic g (closed_sum x (fitted_list g p n))

unfoldable pub force : Grid → Params → ℕ → ℕ → Ends
force g p x n = cond (ltb x first_closed) (young_force g p x n) (old_force g p x n)

-- a part d/D of a year, and the whole of it
abbrev pub whole_year : Ratio
whole_year = whole/ 1

-- "force times d/D": "Each end of that exponent is rounded outward."
unfoldable pub force_over : Ratio → Ends → Ends
force_over part f = outward_over (f.lower * part.num) (f.upper * part.num) part.den

-- "p = exponential of −force"; paper 02, E6: "the last part year is the exponential of force times d/D"
unfoldable pub survival : Grid → Params → ℕ → ℕ → Ratio → Ends
survival g p x n part = exp_between g (force_over part (force g p x n))

-- "Age above 90 needs the cells 80 to 90 of its year."
unfoldable pub fitted_in_range : Grid → Params → ℕ → ℕ → Bool
fitted_in_range g p n zero = true
fitted_in_range g p n (suc i) = fitted_in_range g p n i && in_range g (log_force g p (first_fitted + i) n)

unfoldable pub needed_in_range : Grid → Params → ℕ → ℕ → Bool
needed_in_range g p x n = cond (ltb x first_closed) (in_range g (log_force g p x n)) (fitted_in_range g p n fitted)
