-- What the code's contracts say beside the definitions: K and kappa of a year, and of the year after.
use Rattle.std.specs.Prelude.{◌≡◌, ℕ, suc, ◌*◌, ◌≤◌, ◌<◌, T, ℤ, ◌+ℤ◌}
use Rattle.number_whole.specs.code.Sizes.{Under, Within}
use Rattle.number_exponential.specs.Grid.{Grid}
use Rattle.set_params.specs.declared.Params.{Params}
use Rattle.set_params.specs.declared.Age.{Age}
use Rattle.set_params.specs.declared.Dynamics.{Dynamics}
use Rattle.set_params.specs.Limits.{period_limit, kappa_limit, last_years}
use Rattle.set_params.specs.code.Within.{PeriodWithin, DynamicsWithin}
use Rattle.set_series.specs.Series.{period_in, period_index, kappa_step, kappa_in, kappa}
use Rattle.set_series.specs.code.Within.{KappaWithin}
use Rattle.set_limits.specs.InLimits.{in_limits}
use Rattle.number_whole.proofs.laws.EndLaws.{Wide}
use Rattle.model_log_force.specs.code.Within.{CellLimits}
use Rattle.model_log_force.specs.declared.Year.{Year}

-- y is a year of the table with K and kappa of p, a set in its limits
pub record YearOf (g : Grid) (p : Params) (y : Year) : Type 0 where
  pub limits : T (in_limits p)
  pub year : y.number ≤ last_years
  pub period : y.period ≡ period_index p y.number
  pub kappas : y.kappas ≡ kappa g p y.number

-- what year n is worked of is in its limits: what takes a series on, and K and kappa in the start year
pub record SeriesOf (g : Grid) (d : Dynamics) (start k : ℤ) (n : ℕ) : Type 0 where
  pub dynamics : DynamicsWithin d
  pub index : PeriodWithin start d.theta
  pub kappa : Under k kappa_limit
  pub years : KappaWithin g d k n
  pub year : n ≤ last_years

-- r is year n of it
pub record YearFrom (g : Grid) (d : Dynamics) (start k : ℤ) (n : ℕ) (r : Year) : Type 0 where
  pub number : r.number ≡ n
  pub period : r.period ≡ period_in start d.theta n
  pub kappas : r.kappas ≡ kappa_in g d k n

-- the year after y is in limits
pub record YearWithin (g : Grid) (d : Dynamics) (y : Year) : Type 0 where
  pub dynamics : DynamicsWithin d
  pub number : y.number < last_years
  pub period : Under y.period period_limit
  pub next : Under (y.period +ℤ d.theta) period_limit
  pub kappas : Within (g.scale * kappa_limit) y.kappas

-- r is the year after y
pub record NextOf (g : Grid) (d : Dynamics) (y r : Year) : Type 0 where
  pub number : r.number ≡ suc y.number
  pub period : r.period ≡ y.period +ℤ d.theta
  pub kappas : r.kappas ≡ kappa_step g d y.kappas

-- what a log force is formed of is in its limits, and no wider than in a year of the table
pub record CellWithin (g : Grid) (age : Age) (y : Year) : Type 0 where
  pub limits : CellLimits g age y.period y.kappas
  pub wide : Wide y.kappas.lower y.kappas.upper last_years
