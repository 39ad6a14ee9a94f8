-- What being in limits says of each parameter, as bounds on its size.
use Rattle.std.specs.Prelude.{ℤ, pos, ◌+ℤ◌, ◌*ℤ◌, ◌≤ℤ◌}
use Rattle.number_whole.specs.code.Sizes.{Under}
use Rattle.set_params.specs.declared.Params.{Params}
use Rattle.set_params.specs.declared.Age.{Age}
use Rattle.set_params.specs.declared.Dynamics.{Dynamics}
use Rattle.set_params.specs.Set.{dynamics_of}
use Rattle.set_params.specs.Limits.{level_limit, slope_limit, a_limit, theta_limit, period_limit, kappa_limit, constant_limit, last_years}
use Rattle.set_params.specs.Limits.{first_start, last_start}

-- the four parameters of an age
pub record AgeWithin (a : Age) : Type 0 where
  pub level : Under a.level level_limit
  pub slope : Under a.slope slope_limit
  pub alpha : Under a.alpha level_limit
  pub beta : Under a.beta slope_limit

-- theta, K and K + 171·theta
pub record PeriodWithin (k t : ℤ) : Type 0 where
  pub theta : Under t theta_limit
  pub start : Under k period_limit
  pub last : Under (k +ℤ pos last_years *ℤ t) period_limit

-- what takes the series a year on
pub record DynamicsWithin (d : Dynamics) : Type 0 where
  pub a : Under d.a a_limit
  pub theta : Under d.theta theta_limit
  pub c : Under d.c constant_limit

-- these, K and k
pub record SeriesWithin (p : Params) : Type 0 where
  pub dynamics : DynamicsWithin (dynamics_of p)
  pub index : PeriodWithin p.period p.theta
  pub kappa : Under p.kappa kappa_limit

-- the start year
pub record StartWithin (start : ℤ) : Type 0 where
  pub first : pos first_start ≤ℤ start
  pub last : start ≤ℤ pos last_start
