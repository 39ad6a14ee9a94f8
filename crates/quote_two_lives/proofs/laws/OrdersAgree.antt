-- The orders of the values of two lives agree where those of the factors do, place by place.
use mathlib.Core.List.{List, Forall₂}
use Rattle.std.specs.Prelude.{ℕ, suc, length}
use Rattle.number_fraction.specs.Bracket.{Bracket}
use Rattle.number_fraction.proofs.laws.RatioTerms.{NotAbove}
use Rattle.number_fraction.proofs.laws.Places.{places-length, places-take}
use Rattle.set_params.specs.declared.Params.{Params}
use Rattle.number_exact.specs.Value.{Agrees}
use Rattle.number_folds.proofs.laws.OrdersAgree.{exactly-agrees, with-factor-agrees, plus-agrees, sum_agrees, survival-agrees}
use Rattle.quote_paths.specs.Path.{Place, order_factors}
use Rattle.quote_paths.proofs.laws.Answers.{AnsweredPath}
use Rattle.quote_paths.proofs.laws.OrdersAgree.{death-of-agrees, factors-agree}
use Rattle.quote_couple_kinds.specs.declared.Status.{Status}
use Rattle.quote_couple_kinds.specs.declared.Status.TheVariants.{JointLife, LastSurvivor}
use Rattle.quote_couple_kinds.specs.declared.CoupleKind.{CoupleKind}
use Rattle.quote_couple_kinds.specs.declared.CoupleKind.TheVariants as kind
use Rattle.quote_two_lives.specs.Exact.{
  order_status_chance,
  order_status_over,
  order_statuses_over,
  order_status_expectancy_over,
  order_couple_over,
}

status-agrees : (status : Status) {a a' b b' : Bracket} → NotAbove a b → NotAbove a' b'
    → NotAbove (order_status_chance status a a') (order_status_chance status b b')
unfolding order_status_chance
status-agrees JointLife h h' = with-factor-agrees h h'
status-agrees LastSurvivor h h' = death-of-agrees (with-factor-agrees (death-of-agrees h) (death-of-agrees h'))

module _ (status : Status) {ps ps' qs qs' : List Bracket} where
  over-agrees : Forall₂ NotAbove ps qs → Forall₂ NotAbove ps' qs' → NotAbove (order_status_over status ps ps') (order_status_over status qs qs')
  unfolding order_status_over
  over-agrees h h' = status-agrees status (survival-agrees h) (survival-agrees h')

expectancy-agrees : (status : Status) {ps ps' qs qs' : List Bracket} → Forall₂ NotAbove ps qs → Forall₂ NotAbove ps' qs'
    → NotAbove (order_status_expectancy_over status ps ps') (order_status_expectancy_over status qs qs')
unfolding order_status_expectancy_over
expectancy-agrees status {ps} {ps'} {qs} {qs'} h h' =
    rw (← places-length h)
    (plus-agrees (exactly-agrees _)
    (sum_agrees (order_statuses_over status ps ps') (order_statuses_over status qs qs') (length ps)
    (λ k l. over-agrees status (places-take (suc k) h) (places-take (suc k) h'))))

couple-agrees : (k : CoupleKind) {ps ps' qs qs' : List Bracket} → Forall₂ NotAbove ps qs → Forall₂ NotAbove ps' qs'
    → NotAbove (order_couple_over k ps ps') (order_couple_over k qs qs')
unfolding order_couple_over
couple-agrees kind.JointLife h h' = over-agrees JointLife h h'
couple-agrees kind.LastSurvivor h h' = over-agrees LastSurvivor h h'
couple-agrees kind.JointExpectancy h h' = expectancy-agrees JointLife h h'
couple-agrees kind.LastExpectancy h h' = expectancy-agrees LastSurvivor h h'

-- of two lives along answered paths
pub value-agrees : {p p' : Params} {path path' : List Place} → AnsweredPath p path → AnsweredPath p' path' → (k : CoupleKind)
    → Agrees (λ (j : ℕ). order_couple_over k (order_factors p path j) (order_factors p' path' j))
value-agrees a a' k =
    record { agree = λ i j m n. (couple-agrees k (factors-agree a i j m n) (factors-agree a' i j m n)).reaches }
