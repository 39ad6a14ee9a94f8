-- The values of two lives on a grid hold every order's: where each factor's ends overlap its bracket, the value's overlap its own.
use mathlib.Core.List.{List, Forall₂}
use Rattle.std.specs.Prelude.{ℕ, suc, ◌≤◌, length}
use Rattle.number_fraction.specs.Bracket.{Bracket}
use Rattle.number_fraction.proofs.laws.Places.{places-length, places-take}
use Rattle.number_taylor.specs.Order.{least_order}
use Rattle.number_exponential.specs.Grid.{Grid}
use Rattle.number_exponential.specs.declared.Ends.{Ends}
use Rattle.set_params.specs.declared.Params.{Params}
use Rattle.number_folds.proofs.laws.Holds.{Over, half_over, with-factor-holds, plus-holds, sum-holds, survival-holds}
use Rattle.quote_paths.specs.Path.{Place, factors, order_factors}
use Rattle.quote_paths.proofs.laws.Answers.{AnsweredPath}
use Rattle.quote_paths.proofs.laws.Facts.{Facts}
use Rattle.quote_paths.proofs.laws.Holds.{death-of-holds, factors-hold}
use Rattle.quote_couple_kinds.specs.declared.Status.{Status}
use Rattle.quote_couple_kinds.specs.declared.Status.TheVariants.{JointLife, LastSurvivor}
use Rattle.quote_couple_kinds.specs.declared.CoupleKind.{CoupleKind}
use Rattle.quote_couple_kinds.specs.declared.CoupleKind.TheVariants as kind
use Rattle.quote_two_lives.specs.TwoLives.{status_chance, status_over, statuses_over, status_expectancy_over, couple_over}
use Rattle.quote_two_lives.specs.Exact.{
  order_status_chance,
  order_status_over,
  order_statuses_over,
  order_status_expectancy_over,
  order_couple_over,
}

module _ (g : Grid) where
  status-holds : (status : Status) {e e' : Ends} {b b' : Bracket} → Over g e b → Over g e' b'
      → Over g (status_chance status g e e') (order_status_chance status b b')
  unfolding status_chance order_status_chance
  status-holds JointLife h h' = with-factor-holds g h h'
  status-holds LastSurvivor h h' = death-of-holds g (with-factor-holds g (death-of-holds g h) (death-of-holds g h'))

  module _ (status : Status) {es es' : List Ends} {bs bs' : List Bracket} where
    over-holds : Forall₂ (Over g) es bs → Forall₂ (Over g) es' bs' → Over g (status_over status g es es') (order_status_over status bs bs')
    unfolding status_over order_status_over
    over-holds h h' = status-holds status (survival-holds g h) (survival-holds g h')

  expectancy-holds : (status : Status) {es es' : List Ends} {bs bs' : List Bracket} → Forall₂ (Over g) es bs
      → Forall₂ (Over g) es' bs' → Over g (status_expectancy_over status g es es') (order_status_expectancy_over status bs bs')
  unfolding status_expectancy_over order_status_expectancy_over
  expectancy-holds status {es} {es'} {bs} {bs'} h h' =
      rw (← places-length h)
      (plus-holds g (half_over g)
      (sum-holds g (statuses_over status g es es') (order_statuses_over status bs bs') (length es)
      (λ k l. over-holds status (places-take (suc k) h) (places-take (suc k) h'))))

  couple-holds : (k : CoupleKind) {es es' : List Ends} {bs bs' : List Bracket} → Forall₂ (Over g) es bs
      → Forall₂ (Over g) es' bs' → Over g (couple_over k g es es') (order_couple_over k bs bs')
  unfolding couple_over order_couple_over
  couple-holds kind.JointLife h h' = over-holds JointLife h h'
  couple-holds kind.LastSurvivor h h' = over-holds LastSurvivor h h'
  couple-holds kind.JointExpectancy h h' = expectancy-holds JointLife h h'
  couple-holds kind.LastExpectancy h h' = expectancy-holds LastSurvivor h h'

-- of two lives along answered paths
pub value-holds : {g : Grid} {t : ℕ} → Facts g t → {p p' : Params} {path path' : List Place} → AnsweredPath p path
    → AnsweredPath p' path' → (k : CoupleKind) (j : ℕ) → least_order ≤ j
    → Over g (couple_over k g (factors g p path) (factors g p' path'))
    (order_couple_over k (order_factors p path j) (order_factors p' path' j))
value-holds {g} f a a' k j l = couple-holds g k (factors-hold f a j l) (factors-hold f a' j l)
