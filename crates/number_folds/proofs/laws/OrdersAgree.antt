-- The orders of the folds agree where those of the factors do, place by place.
use mathlib.Core.List.{List, Forall₂}
use Rattle.std.specs.Prelude.{ℕ, zero, suc, ◌<◌, length}
use Rattle.std.proofs.Common.{arith}
use Rattle.number_fraction.specs.Ratio.{Ratio, whole/}
use Rattle.number_fraction.proofs.laws.RatioLaws.{≤/-refl, +/-mono, */-mono}
use Rattle.number_fraction.specs.Bracket.{Bracket}
use Rattle.number_fraction.proofs.laws.RatioTerms.{NotAbove}
use Rattle.number_fraction.proofs.laws.Places.{places-length, places-take}
use Rattle.number_folds.specs.Exact.{
  exactly,
  order_with_factor,
  order_survival_from,
  order_survival_over,
  order_survivals_over,
  order_plus,
  order_sum_over,
  order_expectancy_over,
}

pub exactly-agrees : (x : Ratio) → NotAbove (exactly x) (exactly x)
unfolding exactly
exactly-agrees x = record { reaches = ≤/-refl x }

-- ---- one factor, and one summand

pub with-factor-agrees : {a b p q : Bracket} → NotAbove a b → NotAbove p q
    → NotAbove (order_with_factor a p) (order_with_factor b q)
unfolding order_with_factor
with-factor-agrees h k = record { reaches = */-mono h.reaches k.reaches }

pub plus-agrees : {a b p q : Bracket} → NotAbove a b → NotAbove p q → NotAbove (order_plus a p) (order_plus b q)
unfolding order_plus
plus-agrees h k = record { reaches = +/-mono h.reaches k.reaches }

pub sum_agrees : (f h : ℕ → Bracket) (n : ℕ) → ((k : ℕ) → k < n → NotAbove (f k) (h k))
    → NotAbove (order_sum_over f n) (order_sum_over h n)
unfolding order_sum_over
sum_agrees f h zero o = exactly-agrees (whole/ 0)
sum_agrees f h (suc n) o = plus-agrees (sum_agrees f h n (λ k l. o k (omega arith))) (o n (omega arith))

-- ---- the folds

from-agrees : {a b : Bracket} {ps qs : List Bracket} → NotAbove a b → Forall₂ NotAbove ps qs
    → NotAbove (order_survival_from a ps) (order_survival_from b qs)
unfolding order_survival_from
from-agrees h Forall₂.nil = h
from-agrees {a = a} {b = b} h (Forall₂.cons {a = x} {b = y} k ks) =
    from-agrees {a = order_with_factor a x} {b = order_with_factor b y} (with-factor-agrees h k) ks

pub survival-agrees : {ps qs : List Bracket} → Forall₂ NotAbove ps qs
    → NotAbove (order_survival_over ps) (order_survival_over qs)
unfolding order_survival_over
survival-agrees h = from-agrees (exactly-agrees (whole/ 1)) h

pub expectancy-agrees : {ps qs : List Bracket} → Forall₂ NotAbove ps qs
    → NotAbove (order_expectancy_over ps) (order_expectancy_over qs)
unfolding order_expectancy_over
expectancy-agrees {ps} {qs} h =
    rw (← places-length h)
    (plus-agrees (exactly-agrees _)
    (sum_agrees (order_survivals_over ps) (order_survivals_over qs) (length ps) (λ k l. survival-agrees (places-take (suc k) h))))
