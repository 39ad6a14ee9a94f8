-- How far from zero the log force lies, for a set in its limits and the years of a quote: each number that is formed on the way
-- fits a signed 64-bit number.
use Rattle.std.specs.Prelude.{ℕ, ◌+◌, ◌*◌, ◌≤◌, ◌<◌, T, ℤ, ◌+ℤ◌, ◌*ℤ◌}
use Rattle.std.proofs.Common.{arith, lit<}
use Rattle.number_whole.specs.code.Sizes.{Under, Within}
use Rattle.number_whole.proofs.laws.Bound.{under-add, under-mul, under-weaken}
use Rattle.number_whole.specs.declared.SignedEnds.{SignedEnds}
use Rattle.number_whole.specs.SignedEnds.{least_product, greatest_product, outward}
use Rattle.number_exponential.specs.Grid.{Grid}
use Rattle.set_params.specs.declared.Params.{Params}
use Rattle.set_params.specs.declared.Age.{Age}
use Rattle.set_params.specs.Set.{ages, age_of}
use Rattle.set_params.specs.Limits.{level_limit, slope_limit, period_limit, kappa_limit, last_years}
use Rattle.set_series.specs.Series.{coefficient_unit, in_grid, period_index, kappa}
use Rattle.set_series.proofs.laws.BoundLaws.{period-under, in_grid-under}
use Rattle.set_limits.specs.InLimits.{in_limits}
use Rattle.set_limits.specs.laws.LimitsLaws.{in-limits-series, in-limits-age, in-limits-kappa-on}
use Rattle.number_whole.proofs.laws.EndLaws.{least_under, greatest-under, outward-under}
use Rattle.model_log_force.specs.LogForce.{cell_force}
use Rattle.model_log_force.specs.code.Within.{CellLimits}

-- B-as-K + beta·kappa, that over the rate's unit, and the log force
abbrev pub sum_limit : ℕ
sum_limit = slope_limit * period_limit + slope_limit * kappa_limit

abbrev pub quotient_limit : ℕ
quotient_limit = 55000000000

abbrev pub force_limit : ℕ
force_limit = level_limit + level_limit + quotient_limit

-- so it is for a set in its limits, in every year of a quote
pub cell-limits : (g : Grid) (p : Params) → T (in_limits p) → {x n : ℕ} → x < ages → n ≤ last_years
    → CellLimits g (age_of p x) (period_index p n) (kappa g p n)
cell-limits g p t {x} {n} hx hn =
    record {
      age = in-limits-age p t x hx;
      period = period-under (in-limits-series p t).index hn;
      kappas = in-limits-kappa-on g p t n hn;
    }

-- so each step is
module _ {g : Grid} {a : Age} {k : ℤ} {e : SignedEnds} (c : CellLimits g a k e) where
  pub least-sum-under : Under (in_grid g (a.slope *ℤ k) +ℤ least_product a.beta e) (g.scale * sum_limit)
  least-sum-under =
      under-weaken (under-add (in_grid-under g (under-mul c.age.slope c.period)) (least_under c.age.beta c.kappas)) (omega arith)

  pub greatest-sum-under : Under (in_grid g (a.slope *ℤ k) +ℤ greatest_product a.beta e) (g.scale * sum_limit)
  greatest-sum-under =
      under-weaken (under-add (in_grid-under g (under-mul c.age.slope c.period)) (greatest-under c.age.beta c.kappas)) (omega arith)

  pub quotients-under : let t = in_grid g (a.slope *ℤ k) in
      Within (g.scale * quotient_limit) (outward (t +ℤ least_product a.beta e) (t +ℤ greatest_product a.beta e) coefficient_unit)
  quotients-under =
      outward-under {m = coefficient_unit} (g.scale * quotient_limit) (lit< tt) (omega arith) least-sum-under greatest-sum-under

  pub cell_force-under : Within (g.scale * force_limit) (cell_force g a k e)
  unfolding cell_force
  cell_force-under =
      let u = in_grid-under g (under-add c.age.level c.age.alpha) in
      let q = quotients-under in
      record { low = under-weaken (under-add u q.low) (omega arith); high = under-weaken (under-add u q.high) (omega arith) }
