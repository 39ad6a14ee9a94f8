-- The step to which an exact value rounds: there is one at most, a printed figure is it, and two values have one step
-- when their figures are equal.
use Rattle.std.specs.Prelude.{◌≡◌, ◌↔◌, ℕ, ◌+◌, ◌*◌, ◌≤◌, ◌<◌}
use Rattle.std.proofs.Common.{subst, sym, ◌∙◌, mul-le-mul_right, le_refl, arith}
use Rattle.std.proofs.Math.Decide.{dec_lt}
use Rattle.number_fraction.specs.Ratio.{◌≤/◌, ◌</◌}
use Rattle.number_fraction.proofs.laws.RatioLaws.{≤/-refl, ≤/-trans, +/-mono, </-≤/-trans, ≤/-</-trans, ≤/-of-not-</}
use Rattle.number_exponential.specs.Grid.{Grid, in_units}
use Rattle.number_fraction.proofs.laws.Room.{finer, finer-positive, room-between}
use Rattle.number_exponential.specs.declared.Ends.{Ends}
use Rattle.number_exact.specs.Value.{Exact, AtLeast, AtMost, lower_edge, upper_edge, RoundsTo, OneStep, Narrows}
use Rattle.number_exact.proofs.laws.ValueLaws.{at-least-weaken}
use Rattle.number_exact.specs.Figure.{half_up}
use Rattle.number_exact.proofs.laws.FigureLaws.{half-up-low, half-up-high}

-- ---- one step at most

-- the upper half-edge of n steps is at most the lower one of more
edges-apart : (g : Grid) (step : ℕ) {n m : ℕ} → n < m → upper_edge g step n ≤/ lower_edge g step m
unfolding upper_edge lower_edge
edges-apart g step h = record { cross = mul-le-mul_right (2 * g.unit) (mul-le-mul_right step (omega arith)) }

module _ {g : Grid} {step : ℕ} where
  -- some order's upper end is below the first step's upper half-edge, which no greater step allows
  not-less : {n m : ℕ} {v : Exact} → RoundsTo g step n v → RoundsTo g step m v → n < m → ⊥
  not-less r q h = q.low.none_below r.order r.counts (</-≤/-trans r.high (edges-apart g step h))

  pub rounds-once : {n m : ℕ} {v : Exact} → RoundsTo g step n v → RoundsTo g step m v → n ≡ m
  rounds-once {n} {m} r q =
      elim (dec_lt n m) [
        | yes h ↦ absurd (not-less r q h)
        | no h ↦ elim (dec_lt m n) [ yes k ↦ absurd (not-less q r k) | no k ↦ omega arith ]
      ]

  -- two values that round to n and n' steps round to one step when n is n', and only then
  pub same_step : {n n' : ℕ} {v v' : Exact} → RoundsTo g step n v → RoundsTo g step n' v'
      → (n ≡ n') ↔ OneStep g step v v'
  same_step {n} {n'} {v} {v'} r r' = (
    λ e. record { steps = n; first = r; second = subst (λ (k : ℕ). RoundsTo g step k v') (sym e) r' },
    λ o. rounds-once r o.first ∙ sym (rounds-once r' o.second),
  )

-- ---- a printed figure

-- an end that rounds to n steps lies at or above their lower half-edge
edge-below : (g : Grid) (step e : ℕ) {n : ℕ} → half_up step e ≡ n
    → lower_edge g step n ≤/ in_units g e
unfolding lower_edge in_units
edge-below g step e h = record { cross = omega (arith, mul-le-mul_right g.unit (half-up-low step e h)) }

-- and below their upper half-edge
edge-algebra : (u e E : ℕ) → 0 < u → 2 * e < E → e * (2 * u) < E * u
edge-algebra u e E p h = let k : 2 * e + 1 ≤ E = omega arith in omega (arith, mul-le-mul_right u k)

edge-above : (g : Grid) (step e : ℕ) {n : ℕ} → 0 < step → half_up step e ≡ n
    → in_units g e </ upper_edge g step n
unfolding upper_edge in_units
edge-above g step e p h = record { cross = edge-algebra g.unit e _ g.positive (half-up-high step e p h) }

-- a value between two ends that both round to n steps rounds to n steps
pub printed-rounds : {g : Grid} {step n : ℕ} {v : Exact} (ends : Ends) → 0 < step
    → AtLeast v (in_units g ends.lower) → AtMost v (in_units g ends.upper) → Narrows v
    → half_up step ends.lower ≡ n → half_up step ends.upper ≡ n → RoundsTo g step n v
printed-rounds {g} {step} {n} ends p a b w l u =
    let x = in_units g ends.upper in
    let y = upper_edge g step n in
    let j = w.order (finer x y) in
    let c = w.counts (finer x y) in
    record {
      low = at-least-weaken (edge-below g step ends.lower l) a;
      order = j;
      counts = c;
      high =
          ≤/-</-trans
          (≤/-trans (w.narrow (finer x y) (finer-positive x y) j (le_refl j))
          (+/-mono (≤/-of-not-</ (b.none_above j c)) (≤/-refl _)))
          (room-between (edge-above g step ends.upper p u));
    }
