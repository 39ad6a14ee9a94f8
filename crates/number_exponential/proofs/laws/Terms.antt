-- The grid's terms against the exact ones: Tk's ends lie on either side of unit·x^k/k!, x = f/unit, and no further off than
-- `slack k` thirds of a unit. Stated over the denominator unit^k·k!.
use Rattle.std.specs.Prelude.{◌≡◌}
use Rattle.std.proofs.Common.{ap, ◌∙◌, mul-le-mul, mul-pos, le_of_lt, lt_of_mul-lt-mul_right, one-mul, pow-suc, arith}
use Prim.Native.Nat.{ℕ, zero, suc, ◌+◌, ◌*◌, ◌^◌, ◌≤◌, ◌<◌}
use Rattle.std.proofs.Math.Nat.{mul-le-mul_right, div-mul-le_self, lt-div-mul-add, le_refl, mul-div_cancel_left, pow-zero}
use Rattle.number_taylor.specs.Taylor.{taylor_den}
use Rattle.number_exponential.specs.Grid.{Grid}
use Rattle.number_exponential.specs.Exponential.{next_lower, next_upper, term_lower, term_upper}
use Rattle.number_whole.proofs.laws.DivisionLaws.{ceilℕ-encloses}

-- thirds of a unit by which Tk's ends may be off: T0 and T1 are exact, and each later term adds less than one unit
unfoldable pub slack : ℕ → ℕ
slack zero = 0
slack (suc zero) = 0
slack (suc (suc zero)) = 3
slack (suc (suc (suc k))) = 4

-- ---- one step

scale-pos : {U : ℕ} (k : ℕ) → 0 < U → 0 < suc k * U
scale-pos k h = mul-pos (omega arith) h

below_step : (t t' f U s D P : ℕ) → t' * (s * U) ≤ t * f → t * D ≤ U * P → t' * (D * (U * s)) ≤ U * (P * f)
below_step t t' f U s D P h k = omega (arith, mul-le-mul_right D h, mul-le-mul_right f k)

above_step : (t t' f U s D P : ℕ) → t * f ≤ t' * (s * U) → U * P ≤ t * D → U * (P * f) ≤ t' * (D * (U * s))
above_step t t' f U s D P h k = omega (arith, mul-le-mul_right D h, mul-le-mul_right f k)

-- what a step makes of an error of e, and adds, is at most e'
near-above-step : (t t' f U s D P e e' : ℕ) → t' * (s * U) ≤ t * f + s * U → 3 * t * D ≤ 3 * (U * P) + e * D
    → e * f + 3 * (U * s) ≤ e' * (U * s) → 3 * t' * (D * (U * s)) ≤ 3 * (U * (P * f)) + e' * (D * (U * s))
near-above-step t t' f U s D P e e' h k l =
    omega (arith, mul-le-mul_right D h, mul-le-mul_right f k, mul-le-mul_right D l)

near-below-step : (t t' f U s D P e e' : ℕ) → t * f ≤ t' * (s * U) + s * U → 3 * (U * P) ≤ (3 * t + e) * D
    → e * f + 3 * (U * s) ≤ e' * (U * s) → 3 * (U * (P * f)) ≤ (3 * t' + e') * (D * (U * s))
near-below-step t t' f U s D P e e' h k l =
    omega (arith, mul-le-mul_right D h, mul-le-mul_right f k, mul-le-mul_right D l)

slack-step : (k f U : ℕ) → f ≤ U → slack (suc k) * f + 3 * (U * suc (suc k)) ≤ slack (suc (suc k)) * (U * suc (suc k))
unfolding slack
slack-step zero f U h = omega arith
slack-step (suc zero) f U h = omega arith
slack-step (suc (suc k)) f U h = omega (arith, mul-le-mul_right k h)

bound-step : (t t' f U k : ℕ) → t' * (suc k * U) < t * f + suc k * U → t ≤ U → f ≤ U
    → t' * (suc k * U) < suc U * (suc k * U)
bound-step t t' f U k h l m = omega (arith, mul-le-mul l m)

le-of-lt-suc : {a b : ℕ} → a < suc b → a ≤ b
le-of-lt-suc h = omega arith

pow-one : (f : ℕ) → f ^ 1 ≡ f
pow-one f = pow-suc f 0 ∙ ap (λ (x : ℕ). x * f) (pow-zero f) ∙ one-mul f

-- ---- all terms

module _ (g : Grid) (f : ℕ) (up : 0 < g.unit) where
  pub term-lower-below : (k : ℕ) → term_lower g f k * taylor_den g.unit k ≤ g.unit * f ^ k
  unfolding term_lower next_lower taylor_den
  term-lower-below zero = rw (pow-zero f) (le_refl (g.unit * 1))
  term-lower-below (suc k) =
      rw (pow-suc f k)
      (below_step (term_lower g f k) _ f g.unit (suc k) (taylor_den g.unit k) (f ^ k)
      (div-mul-le_self (term_lower g f k * f) (suc k * g.unit)) (term-lower-below k))

  pub term-upper-above : (k : ℕ) → g.unit * f ^ k ≤ term_upper g f k * taylor_den g.unit k
  unfolding term_upper next_upper taylor_den
  term-upper-above zero = rw (pow-zero f) (le_refl (g.unit * 1))
  term-upper-above (suc k) =
      rw (pow-suc f k)
      (above_step (term_upper g f k) _ f g.unit (suc k) (taylor_den g.unit k) (f ^ k)
      (ceilℕ-encloses (term_upper g f k * f) (scale-pos k up)).0 (term-upper-above k))

  -- T1 is f itself
  first-lower : term_lower g f 1 ≡ f
  unfolding term_lower next_lower
  first-lower = rw (one-mul g.unit) (mul-div_cancel_left f up)

  first-upper : term_upper g f 1 ≤ f
  unfolding term_upper next_upper
  first-upper =
      le-of-lt-suc
      (lt_of_mul-lt-mul_right (1 * g.unit) (omega (arith, (ceilℕ-encloses (g.unit * f) (scale-pos 0 up)).1)))

  pub term-lower-near : f ≤ g.unit → (k : ℕ)
      → 3 * (g.unit * f ^ k) ≤ (3 * term_lower g f k + slack k) * taylor_den g.unit k
  unfolding term_lower next_lower taylor_den slack
  term-lower-near h zero = rw (pow-zero f) (omega arith)
  term-lower-near h (suc zero) = let e : term_lower g f 1 ≡ f = first-lower in rw (pow-one f, e) (omega arith)
  term-lower-near h (suc (suc k)) =
      rw (pow-suc f (suc k))
      (near-below-step (term_lower g f (suc k)) _ f g.unit (suc (suc k)) (taylor_den g.unit (suc k)) (f ^ suc k)
      (slack (suc k)) (slack (suc (suc k)))
      (le_of_lt (lt-div-mul-add (scale-pos (suc k) up))) (term-lower-near h (suc k)) (slack-step k f g.unit h))

  pub term-upper-near : f ≤ g.unit → (k : ℕ)
      → 3 * term_upper g f k * taylor_den g.unit k ≤ 3 * (g.unit * f ^ k) + slack k * taylor_den g.unit k
  unfolding term_upper next_upper taylor_den slack
  term-upper-near h zero = rw (pow-zero f) (omega arith)
  term-upper-near h (suc zero) = rw (pow-one f) (omega (arith, mul-le-mul_right g.unit first-upper))
  term-upper-near h (suc (suc k)) =
      rw (pow-suc f (suc k))
      (near-above-step (term_upper g f (suc k)) _ f g.unit (suc (suc k)) (taylor_den g.unit (suc k)) (f ^ suc k)
      (slack (suc k)) (slack (suc (suc k)))
      (le_of_lt (ceilℕ-encloses _ (scale-pos (suc k) up)).1) (term-upper-near h (suc k)) (slack-step k f g.unit h))

  -- no term passes the unit
  pub term-upper-bound : f ≤ g.unit → (k : ℕ) → term_upper g f k ≤ g.unit
  unfolding term_upper next_upper
  term-upper-bound h zero = le_refl g.unit
  term-upper-bound h (suc k) =
      le-of-lt-suc (lt_of_mul-lt-mul_right (suc k * g.unit)
      (bound-step (term_upper g f k) _ f g.unit k (ceilℕ-encloses _ (scale-pos k up)).1 (term-upper-bound h k) h))

  pub term-lower-bound : f ≤ g.unit → (k : ℕ) → term_lower g f k ≤ g.unit
  unfolding term_lower next_lower
  term-lower-bound h zero = le_refl g.unit
  term-lower-bound h (suc k) =
      le-of-lt-suc (lt_of_mul-lt-mul_right (suc k * g.unit)
      (bound-step (term_lower g f k) _ f g.unit k
      (omega (arith, div-mul-le_self (term_lower g f k * f) (suc k * g.unit), scale-pos k up)) (term-lower-bound h k) h))
