-- The force e^−z is at most 1/2 from z₀ on, on the grid and at every order that counts.
use Rattle.std.proofs.Common.{subst, mul-le-mul_right, le_of_mul-le-mul_right, le_trans, arith}
use Rattle.std.specs.Prelude.{ℕ, ◌+◌, ◌*◌, ◌≤◌, ◌<◌}
use Rattle.std.proofs.Math.Nat.{le_dest}
use Rattle.number_fraction.specs.Ratio.{Ratio, ◌≤/◌}
use Rattle.number_fraction.proofs.laws.RatioLaws.{≤/-trans}
use Rattle.number_taylor.specs.Taylor.{taylor_den, taylor_num}
use Rattle.number_taylor.specs.Order.{order_upper, least_order}
use Rattle.number_taylor.proofs.laws.OrderLaws.{upper-falls, upper-antitone}
use Rattle.number_taylor.specs.Positive.{taylor_den-positive, taylor_num-positive}
use Rattle.number_taylor.proofs.laws.Sums.{sum-monotone}
use Rattle.number_exponential.specs.Grid.{Grid, in_units}
use Rattle.number_exponential.specs.Exponential.{exp_upper}
use Rattle.number_exponential.proofs.laws.Facts.{Sound}
use Rattle.number_exponential.proofs.laws.WidthFacts.{Narrow, slack_upper}
use Rattle.number_exponential.proofs.laws.Width.{upper-near}
use Rattle.model_logarithm.proofs.laws.Half.{half}
use Rattle.model_logarithm.proofs.laws.Range.{Halving}

-- the margin holds at the larger sum N too
larger : (U S D n N : ℕ) → n ≤ N → 2 * S ≤ 3 * U → 6 * (U * D) + 2 * S * n ≤ 3 * U * n → 6 * (U * D) + 2 * S * N ≤ 3 * U * N
larger U S D n N l s h =
    let d = le_dest l in
    subst (λ (m : ℕ). 6 * (U * D) + 2 * S * m ≤ 3 * U * m) d.1 (omega (arith, mul-le-mul_right d.0 s))

halved : (U S D N E : ℕ) → 0 < N → 3 * E * N ≤ 3 * (U * D) + S * N → 6 * (U * D) + 2 * S * N ≤ 3 * U * N → 2 * E ≤ U
halved U S D N E p h k = le_of_mul-le-mul_right {k = 3 * N} (omega arith) (omega arith)

twice-below : (U S D n : ℕ) → 0 < U → 6 * (U * D) + 2 * S * n ≤ 3 * U * n → 2 * D ≤ n
twice-below U S D n p h = le_of_mul-le-mul_right {k = 3 * U} (omega arith) (omega arith)

module _ (g : Grid) (s : Sound g) (z₀ : ℕ) (h : Halving g z₀) where
  -- on the grid: twice the upper end of the exponential is at most the unit
  pub force-half : Narrow g s → (z : ℕ) → z₀ ≤ z → 2 * exp_upper g z ≤ g.unit
  force-half w z l =
      let U = g.unit in
      let D = taylor_den U h.order in
      let p = taylor_den-positive U h.order g.positive in
      let n : taylor_num z₀ U h.order ≤ taylor_num z U h.order =
      le_of_mul-le-mul_right {k = D} (sum-monotone z₀ U z U h.order (mul-le-mul_right U l)) p in
      halved U (slack_upper g) D _ (exp_upper g z) (taylor_num-positive z U h.order g.positive)
      (upper-near g s w z h.order h.some-order) (larger U (slack_upper g) D _ _ n h.slack-small h.tested)

  -- at every order that counts
  first-half : order_upper (in_units g z₀) h.order ≤/ half
  unfolding order_upper in_units half
  first-half = record { cross = omega (arith, twice-below g.unit (slack_upper g) _ _ g.positive h.tested) }

  pub order-force-half : {z : Ratio} (j : ℕ) → in_units g z₀ ≤/ z → least_order ≤ j → order_upper z j ≤/ half
  order-force-half {z} j l k =
      ≤/-trans (upper-antitone j l)
      (≤/-trans (upper-falls (in_units g z₀) h.order j (le_trans h.counted k)) first-half)
