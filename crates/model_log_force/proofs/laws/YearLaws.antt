-- A year of the table: the year after it, and its cells at ages to 90 as an age's parameters give them.
use Rattle.std.specs.Prelude.{◌≡◌, ℕ, suc, ◌*◌, ◌≤◌, ◌<◌, T, ℤ, pos, ◌+ℤ◌, ◌*ℤ◌}
use Rattle.std.proofs.Common.{sym, ap, ◌∙◌, arith}
use Rattle.number_whole.proofs.laws.Split.{split, split-add, split-scale-left}
use Rattle.number_whole.specs.code.Sizes.{Under, Within}
use Rattle.number_whole.proofs.laws.Bound.{bits, back}
use Rattle.number_exponential.specs.Grid.{Grid}
use Rattle.set_params.specs.declared.Params.{Params}
use Rattle.set_params.specs.declared.Dynamics.{Dynamics}
use Rattle.set_params.specs.code.Within.{SeriesWithin}
use Rattle.set_params.specs.Set.{ages, age_of, dynamics_of}
use Rattle.set_params.specs.Limits.{last_years, period_limit, kappa_limit}
use Rattle.set_series.specs.Series.{period_in, period_index, kappa_in, kappa}
use Rattle.set_series.proofs.laws.BoundLaws.{period-under}
use Rattle.set_series.proofs.laws.WidthLaws.{kappa-wide}
use Rattle.set_limits.specs.InLimits.{in_limits}
use Rattle.set_limits.specs.laws.LimitsLaws.{in-limits-series, in-limits-kappa-on}
use Rattle.number_whole.proofs.laws.EndLaws.{Wide, wide-more}
use Rattle.model_log_force.specs.LogForce.{cell_force, log_force}
use Rattle.model_log_force.proofs.laws.BoundLaws.{cell-limits}
use Rattle.model_log_force.specs.declared.Year.{Year}
use Rattle.model_log_force.specs.code.Year.{SeriesOf, YearFrom, YearOf, YearWithin, NextOf, CellWithin}

step_sum : (k t : ℤ) (n : ℕ) → k +ℤ pos (suc n) *ℤ t ≡ (k +ℤ pos n *ℤ t) +ℤ t
step_sum k t n =
    omega (
      split,
      split-add k (pos (suc n) *ℤ t),
      split-scale-left (suc n) t,
      split-add k (pos n *ℤ t),
      split-scale-left n t,
      split-add (k +ℤ pos n *ℤ t) t,
    )

period-step : (p : Params) (n : ℕ) → period_index p (suc n) ≡ period_index p n +ℤ p.theta
unfolding period_in
period-step p n = step_sum p.period p.theta n

-- a year of a set in its limits, worked of its series as the code reads them
module _ (g : Grid) (p : Params) (t : T (in_limits p)) {n : ℕ} (l : n ≤ last_years) where
  abbrev w : SeriesWithin p
  w = in-limits-series p t

  abbrev read-dynamics : Dynamics
  read-dynamics = record { a = bits p.a; theta = bits p.theta; c = bits p.c }

  dynamics-is : read-dynamics ≡ dynamics_of p
  dynamics-is = let d = w.dynamics in rw (back d.a tt, back d.theta tt, back d.c tt)

  pub year-asked : SeriesOf g read-dynamics (bits p.period) (bits p.kappa) n
  year-asked =
      rw (dynamics-is, back w.index.start tt, back w.kappa tt) (record {
        dynamics = w.dynamics;
        index = w.index;
        kappa = w.kappa;
        years = record { years = λ m h. in-limits-kappa-on g p t m (omega (arith, h, l)) };
        year = l;
      })

  pub year-given : {r : Year} → YearFrom g read-dynamics (bits p.period) (bits p.kappa) n r → YearOf g p r
  year-given {r} f =
      let e = rw (dynamics-is, back w.index.start tt, back w.kappa tt) at f in
      record {
        limits = t;
        year = rw f.number l;
        period = e.period ∙ ap (period_index p) (sym f.number);
        kappas = e.kappas ∙ ap (kappa g p) (sym f.number);
      }

module _ {g : Grid} {p : Params} {y : Year} (h : YearOf g p y) where
  period-within : Under y.period period_limit
  period-within = rw h.period (period-under (in-limits-series p h.limits).index h.year)

  kappas-within : Within (g.scale * kappa_limit) y.kappas
  kappas-within = rw h.kappas (in-limits-kappa-on g p h.limits y.number h.year)

  -- the year after is in its limits where it is one of the table, and it is the set's
  pub year-within : y.number < last_years → YearWithin g (dynamics_of p) y
  year-within l =
      let s = in-limits-series p h.limits in
      record {
        dynamics = s.dynamics;
        number = l;
        period = period-within;
        next = rw (h.period, ← period-step p y.number) (period-under s.index l);
        kappas = kappas-within;
      }

  pub year-next : y.number < last_years → {r : Year} → NextOf g (dynamics_of p) y r → YearOf g p r
  unfolding kappa_in
  year-next l e =
      record {
        limits = h.limits;
        year = omega (arith, e.number);
        period = rw (e.period, e.number, h.period, period-step p y.number);
        kappas = rw (e.kappas, e.number, h.kappas);
      }

  -- what a log force at an age to 90 is formed of
  pub cell-within : {x : ℕ} → x < ages → CellWithin g (age_of p x) y
  cell-within {x} l =
      record {
        limits = rw (h.period, h.kappas) (cell-limits g p h.limits l h.year);
        wide = kappas-wide;
      }
    where
      kappas-wide : Wide y.kappas.lower y.kappas.upper last_years
      kappas-wide =
          let w = kappa-wide g p.kappa y.number (in-limits-series p h.limits).dynamics in
          wide-more h.year (rw (← h.kappas) at w)

  -- is the set's
  pub year-force : (x : ℕ) → cell_force g (age_of p x) y.period y.kappas ≡ log_force g p x y.number
  unfolding log_force
  year-force x = rw (h.period, h.kappas)
