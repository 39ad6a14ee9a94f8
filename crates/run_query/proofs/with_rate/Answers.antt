-- `with_rate` meets its contract, case by case.
use mathlib.Core.Path.{◌≡◌, sym, ap, ◌∙◌}
use lib.IntN.{ℤ}
use mir.Facts.{to_z-of_z}
use Rattle.quote_kinds.specs.declared.Kind.{Kind}
use Rattle.quote_kinds.specs.declared.Kind.TheVariants.{CohortAnnuity, PeriodAnnuity}
use Rattle.quote_kinds.specs.Kinds.{with_rate}
use Rattle.run_query.proofs.with_rate.Goals as goal

-- the kind that the code's enum holds, with the rate
at : (kind : Kind) (rate : ℤ) {k : Kind} → kind ≡ k → with_rate k rate ≡ with_rate kind rate
at kind rate e = sym (ap (λ (k : Kind). with_rate k rate) e)

pub returns-in-Death : goal.returns-in-Death
unfolding with_rate
returns-in-Death c = at c.args.kind c.args.rate c.in-Death.is

pub returns-in-CohortSurvival : goal.returns-in-CohortSurvival
unfolding with_rate
returns-in-CohortSurvival c = at c.args.kind c.args.rate c.in-CohortSurvival.is

pub returns-in-PeriodSurvival : goal.returns-in-PeriodSurvival
unfolding with_rate
returns-in-PeriodSurvival c = at c.args.kind c.args.rate c.in-PeriodSurvival.is

pub returns-in-CohortExpectancy : goal.returns-in-CohortExpectancy
unfolding with_rate
returns-in-CohortExpectancy c = at c.args.kind c.args.rate c.in-CohortExpectancy.is

pub returns-in-PeriodExpectancy : goal.returns-in-PeriodExpectancy
unfolding with_rate
returns-in-PeriodExpectancy c = at c.args.kind c.args.rate c.in-PeriodExpectancy.is

pub returns-in-CohortAnnuity : goal.returns-in-CohortAnnuity
unfolding with_rate
returns-in-CohortAnnuity c =
    ap CohortAnnuity (to_z-of_z c.ranges.rate) ∙ at c.args.kind c.args.rate c.in-CohortAnnuity.is

pub returns-in-PeriodAnnuity : goal.returns-in-PeriodAnnuity
unfolding with_rate
returns-in-PeriodAnnuity c =
    ap PeriodAnnuity (to_z-of_z c.ranges.rate) ∙ at c.args.kind c.args.rate c.in-PeriodAnnuity.is

pub returns-in-Day : goal.returns-in-Day
unfolding with_rate
returns-in-Day c = at c.args.kind c.args.rate c.in-Day.is
