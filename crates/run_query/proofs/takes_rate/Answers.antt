-- `takes_rate` meets its contract, case by case.
use mathlib.Core.Path.{sym, ap}
use Rattle.quote_kinds.specs.Kinds.{takes_rate}
use Rattle.run_query.proofs.takes_rate.Goals as goal

pub returns-in-Death : goal.returns-in-Death
unfolding takes_rate
returns-in-Death c = sym (ap takes_rate c.in-Death.is)

pub returns-in-CohortSurvival : goal.returns-in-CohortSurvival
unfolding takes_rate
returns-in-CohortSurvival c = sym (ap takes_rate c.in-CohortSurvival.is)

pub returns-in-PeriodSurvival : goal.returns-in-PeriodSurvival
unfolding takes_rate
returns-in-PeriodSurvival c = sym (ap takes_rate c.in-PeriodSurvival.is)

pub returns-in-CohortExpectancy : goal.returns-in-CohortExpectancy
unfolding takes_rate
returns-in-CohortExpectancy c = sym (ap takes_rate c.in-CohortExpectancy.is)

pub returns-in-PeriodExpectancy : goal.returns-in-PeriodExpectancy
unfolding takes_rate
returns-in-PeriodExpectancy c = sym (ap takes_rate c.in-PeriodExpectancy.is)

pub returns-in-CohortAnnuity : goal.returns-in-CohortAnnuity
unfolding takes_rate
returns-in-CohortAnnuity c = sym (ap takes_rate c.in-CohortAnnuity.is)

pub returns-in-PeriodAnnuity : goal.returns-in-PeriodAnnuity
unfolding takes_rate
returns-in-PeriodAnnuity c = sym (ap takes_rate c.in-PeriodAnnuity.is)

pub returns-in-Day : goal.returns-in-Day
unfolding takes_rate
returns-in-Day c = sym (ap takes_rate c.in-Day.is)
