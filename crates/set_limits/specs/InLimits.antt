-- Whether a set is in its limits, which refusal 2 asks: the sizes of its numbers, its start, and kappa in every year.
use Rattle.std.specs.Prelude.{ℕ, zero, suc, Bool, true, ◌&&◌, ℤ, pos, ◌+ℤ◌, ◌*ℤ◌}
use Rattle.std.specs.Int.Signed.{le_z}
use Rattle.number_whole.specs.declared.SignedEnds.{SignedEnds}
use Rattle.number_exponential.specs.Units.{billionths}
use Rattle.set_params.specs.declared.Params.{Params}
use Rattle.set_params.specs.declared.Age.{Age}
use Rattle.set_params.specs.declared.Dynamics.{Dynamics}
use Rattle.set_params.specs.declared.Table.{Table}
use Rattle.set_params.specs.declared.Table.TheVariants.{Ag2014, LiLee}
use Rattle.set_params.specs.Set.{ages, age_of, dynamics_of}
use Rattle.set_params.specs.Limits.{level_limit, slope_limit, a_limit, theta_limit, period_limit, kappa_limit, constant_limit, last_years}
use Rattle.set_params.specs.Limits.{first_start, last_start, within}
use Rattle.set_series.specs.Series.{kappa_in}

-- f at 0, 1, .. to n − 1
unfoldable pub all_below : (ℕ → Bool) → ℕ → Bool
all_below f zero = true
all_below f (suc n) = all_below f n && f n

-- "a start year from 2013 to 2033 and a constant c, at most 10,000,000,000 either side": "A start outside its range, c past its
-- size, or a set marked AG2014 with another start or c, is 2."
unfoldable pub last_start_of : Table → ℕ
last_start_of Ag2014 = first_start
last_start_of LiLee = last_start

unfoldable pub constant_limit_of : Table → ℕ
constant_limit_of Ag2014 = 0
constant_limit_of LiLee = constant_limit

unfoldable pub table_in_limits : Table → ℤ → ℤ → Bool
table_in_limits table start c =
    le_z (pos first_start) start && (le_z start (pos (last_start_of table)) && within (constant_limit_of table) c)

-- a, theta, K, K + 171·theta and k: "the K test uses start + 171"
unfoldable pub series_in_limits : Params → Bool
series_in_limits p =
    within a_limit p.a && (within theta_limit p.theta && (within period_limit p.period
    && (within period_limit (p.period +ℤ pos last_years *ℤ p.theta) && within kappa_limit p.kappa)))

-- the four parameters of an age
unfoldable pub age_in_limits : Age → Bool
age_in_limits a =
    within level_limit a.level && (within slope_limit a.slope && (within level_limit a.alpha
    && within slope_limit a.beta))

-- "Kappa's ends must lie within k's limit in all those years": from the start to start + 171
unfoldable pub ends_in_limits : SignedEnds → Bool
ends_in_limits e = within kappa_limit e.lower && within kappa_limit e.upper

unfoldable pub kappa_in_limits : Dynamics → ℤ → Bool
kappa_in_limits d k = all_below (λ (n : ℕ). ends_in_limits (kappa_in billionths d k n)) (suc last_years)

unfoldable pub in_limits : Params → Bool
in_limits p =
    table_in_limits p.table p.start p.c && (series_in_limits p
    && (all_below (λ (x : ℕ). age_in_limits (age_of p x)) ages && kappa_in_limits (dynamics_of p) p.kappa))
