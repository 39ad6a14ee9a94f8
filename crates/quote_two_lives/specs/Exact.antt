-- "the same formula over the two lives' exact survivals" (paper 02, E8): the same over an order's brackets, with nothing rounded.
use Rattle.std.specs.Prelude.{List, ℕ, suc, length, take}
use Rattle.number_fraction.specs.Bracket.{Bracket}
use Rattle.number_folds.specs.Exact.{exactly, half/, order_with_factor, order_survival_over, order_plus, order_sum_over}
use Rattle.quote_paths.specs.Values.{order_death_of}
use Rattle.quote_couple_kinds.specs.declared.Status.{Status}
use Rattle.quote_couple_kinds.specs.declared.Status.TheVariants.{JointLife, LastSurvivor}
use Rattle.quote_couple_kinds.specs.declared.CoupleKind.{CoupleKind}
use Rattle.quote_couple_kinds.specs.declared.CoupleKind.TheVariants as kind

unfoldable pub order_status_chance : Status → Bracket → Bracket → Bracket
order_status_chance JointLife s s' = order_with_factor s s'
order_status_chance LastSurvivor s s' = order_death_of (order_with_factor (order_death_of s) (order_death_of s'))

unfoldable pub order_status_over : Status → List Bracket → List Bracket → Bracket
order_status_over status ps ps' = order_status_chance status (order_survival_over ps) (order_survival_over ps')

abbrev pub order_statuses_over : Status → List Bracket → List Bracket → ℕ → Bracket
order_statuses_over status ps ps' = λ k. order_status_over status (take (suc k) ps) (take (suc k) ps')

unfoldable pub order_status_expectancy_over : Status → List Bracket → List Bracket → Bracket
order_status_expectancy_over status ps ps' = order_plus (exactly half/) (order_sum_over (order_statuses_over status ps ps') (length ps))

unfoldable pub order_couple_over : CoupleKind → List Bracket → List Bracket → Bracket
order_couple_over kind.JointLife ps ps' = order_status_over JointLife ps ps'
order_couple_over kind.LastSurvivor ps ps' = order_status_over LastSurvivor ps ps'
order_couple_over kind.JointExpectancy ps ps' = order_status_expectancy_over JointLife ps ps'
order_couple_over kind.LastExpectancy ps ps' = order_status_expectancy_over LastSurvivor ps ps'
