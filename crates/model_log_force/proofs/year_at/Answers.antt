-- `year_at` meets its contract: K and kappa of a year, each read as it is.
use mathlib.Core.Path.{◌≡◌, refl}
use native.Mathlib.Omega.{arith}
use Rattle.number_whole.proofs.laws.Bound.{fits, back, under-weaken}
use Rattle.set_series.specs.Series.{period_in}
use Rattle.set_series.proofs.laws.BoundLaws.{period-under}
use Rattle.number_whole.proofs.Signed.{read}
use Rattle.model_log_force.proofs.year_at.Goals as goal

pub period_index-period-requires : goal.period_index-period-requires
period_index-period-requires c =
    let s = c.before in
    let w = s.requires.index in
    rw (back w.start tt, back w.theta tt) (w, s.requires.year)

pub kappa_at-kappas-requires : goal.kappa_at-kappas-requires
kappa_at-kappas-requires c =
    let w = c.before.before.requires in
    rw (back w.kappa tt) (w.dynamics, under-weaken w.kappa (omega arith), w.years)

pub returns : goal.returns
returns c =
    let i = c.before in
    let s = i.before.before in
    let w = s.requires in
    let u = w.index in
    let e : i.period_index-period.result ≡ period_in s.args.start s.args.d.theta s.args.n =
    rw (back u.start tt, back u.theta tt) at i.period_index-period.ensures in
    record {
      number = refl;
      period = read e (fits (period-under u w.year) tt);
      kappas = rw (back w.kappa tt) at c.kappa_at-kappas.ensures;
    }
