-- Half-up rounding as two bounds on the end, and what a figure says of its ends.
use Rattle.std.specs.Prelude.{◌≡◌, refl, ◌↔◌, ℕ, ◌+◌, ◌-◌, ◌*◌, ◌/◌, ◌≤◌, ◌<◌}
use Rattle.std.proofs.Common.{div-mul-le_self, arith, eq-eqb, ne_eqb}
use Rattle.std.proofs.Math.Nat.{lt-div-mul-add}
use Rattle.std.proofs.Math.Decide.{ℕ_discrete}
use Rattle.number_whole.proofs.laws.Clash.{clash}
use Rattle.number_exponential.specs.declared.Ends.{Ends}
use Rattle.number_exponential.proofs.laws.SumLaws.{sub-mul}
use Rattle.number_exact.specs.declared.Figure.TheVariants.{Printed, Open}
use Rattle.number_exact.specs.Figure.{half_up, figure_of}

-- a quotient rounded down, as two bounds
div-low : (a b : ℕ) {n : ℕ} → a / b ≡ n → n * b ≤ a
div-low a b h = rw (← h) (div-mul-le_self a b)

div-high : (a b : ℕ) {n : ℕ} → 0 < b → a / b ≡ n → a < n * b + b
div-high a b p h = rw (← h) (lt-div-mul-add p)

-- an end that rounds to n steps lies at or above n − 1/2 steps, and below n + 1/2
pub half-up-low : (step e : ℕ) {n : ℕ} → half_up step e ≡ n → (2 * n - 1) * step ≤ 2 * e
unfolding half_up
half-up-low step e {n} h = omega (arith, sub-mul (2 * n) 1 step, div-low _ _ h)

pub half-up-high : (step e : ℕ) {n : ℕ} → 0 < step → half_up step e ≡ n → 2 * e < (2 * n + 1) * step
unfolding half_up
half-up-high step e p h = omega (arith, div-high _ (2 * step) (omega arith) h)

-- ends that give one step print it, and other ends are open
pub printed-when : (step : ℕ) (ends : Ends) {n : ℕ} → half_up step ends.lower ≡ n → half_up step ends.upper ≡ n
    → figure_of step ends ≡ Printed n
unfolding figure_of
printed-when step ends l u = rw (l, u, eq-eqb _ _ refl)

open-when : (step : ℕ) (ends : Ends) → (half_up step ends.lower ≡ half_up step ends.upper → ⊥)
    → figure_of step ends ≡ Open
unfolding figure_of
open-when step ends h = rw (ne_eqb (half_up step ends.lower) (half_up step ends.upper) h)

-- a printed figure is the step of both ends
pub figure-printed : (step : ℕ) (ends : Ends) {n : ℕ} → figure_of step ends ≡ Printed n
    → (half_up step ends.lower ≡ n) × (half_up step ends.upper ≡ n)
figure-printed step ends {n} e =
    elim (ℕ_discrete (half_up step ends.lower) (half_up step ends.upper)) [
      | yes h ↦ let k = printed-when step ends h refl in (cc, cc)
      | no h ↦ let k = open-when step ends h in clash cc
    ]

-- a figure is open when its ends round to different steps, and only then
pub figure-open : (step : ℕ) (ends : Ends)
    → (figure_of step ends ≡ Open) ↔ (half_up step ends.lower ≡ half_up step ends.upper → ⊥)
figure-open step ends = (
  λ e h. let k = printed-when step ends h refl in clash cc,
  open-when step ends,
)
