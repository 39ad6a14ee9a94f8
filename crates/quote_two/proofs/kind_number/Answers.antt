-- `kind_number` meets its contract, case by case.
use mathlib.Core.Path.{sym, ap}
use Rattle.quote_two.specs.code.Code.{kind_number}
use Rattle.quote_two.proofs.kind_number.Goals as goal

pub returns-in-Death : goal.returns-in-Death
unfolding kind_number
returns-in-Death c = sym (ap kind_number c.in-Death.is)

pub returns-in-CohortSurvival : goal.returns-in-CohortSurvival
unfolding kind_number
returns-in-CohortSurvival c = sym (ap kind_number c.in-CohortSurvival.is)

pub returns-in-PeriodSurvival : goal.returns-in-PeriodSurvival
unfolding kind_number
returns-in-PeriodSurvival c = sym (ap kind_number c.in-PeriodSurvival.is)

pub returns-in-CohortExpectancy : goal.returns-in-CohortExpectancy
unfolding kind_number
returns-in-CohortExpectancy c = sym (ap kind_number c.in-CohortExpectancy.is)

pub returns-in-PeriodExpectancy : goal.returns-in-PeriodExpectancy
unfolding kind_number
returns-in-PeriodExpectancy c = sym (ap kind_number c.in-PeriodExpectancy.is)

pub returns-in-CohortAnnuity : goal.returns-in-CohortAnnuity
unfolding kind_number
returns-in-CohortAnnuity c = sym (ap kind_number c.in-CohortAnnuity.is)

pub returns-in-PeriodAnnuity : goal.returns-in-PeriodAnnuity
unfolding kind_number
returns-in-PeriodAnnuity c = sym (ap kind_number c.in-PeriodAnnuity.is)

pub returns-in-Day : goal.returns-in-Day
unfolding kind_number
returns-in-Day c = sym (ap kind_number c.in-Day.is)
