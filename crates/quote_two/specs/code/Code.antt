-- What the code's contracts say beside the claim: a kind's number, by which kinds are compared, and a printed figure's steps.
use Rattle.std.specs.Prelude.{Bool, Option, None, Some, ℕ, eqb}
use Rattle.quote_kinds.specs.declared.Kind.{Kind}
use Rattle.quote_kinds.specs.declared.Kind.TheVariants as kind
use Rattle.quote.specs.Demand.{Shown, printed, marked_open, no_figure}

-- a number for each kind, whatever the rate, and kinds compared by it
unfoldable pub kind_number : Kind → ℕ
kind_number kind.Death = 0
kind_number kind.CohortSurvival = 1
kind_number kind.PeriodSurvival = 2
kind_number kind.CohortExpectancy = 3
kind_number kind.PeriodExpectancy = 4
kind_number (kind.CohortAnnuity rate) = 5
kind_number (kind.PeriodAnnuity rate) = 6
kind_number kind.Day = 7

unfoldable pub one_kind : Kind → Kind → Bool
one_kind k k' = eqb (kind_number k) (kind_number k')

-- the steps of a figure that is printed
unfoldable pub steps_shown : Shown → Option ℕ
steps_shown (printed n) = Some n
steps_shown marked_open = None
steps_shown no_figure = None
