-- How far apart the folds' ends lie: a survival's at most as far as those of all its factors together and 2 units a
-- factor, an expectancy's as those of all the survivals in it.
use mathlib.Core.List.{List, [], ◌∷◌, map, Forall₂}
use Rattle.std.specs.Prelude.{ℕ, zero, suc, ◌+◌, ◌*◌, ◌≤◌, ◌<◌, length, take}
use Rattle.std.proofs.Math.Nat.{le_refl}
use Rattle.std.proofs.Common.{le_trans, mul-le-mul, mul-le-mul_left, mul-le-mul_right}
use native.Mathlib.Omega.{arith}
use Rattle.number_fraction.proofs.laws.Places.{places-length, places-take}
use Rattle.number_exponential.specs.Grid.{Grid}
use Rattle.number_exponential.specs.declared.Ends.{Ends}
use Rattle.number_exponential.specs.Exponential.{total}
use Rattle.number_exponential.proofs.laws.OutwardLaws.{outward-ordered, outward-width, outward-most}
use Rattle.number_folds.specs.Folds.{one, half, with_factor, survival_from, survival_over, survivals_over, plus, sum_over, expectancy_over}

-- the two ends of a chance, a factor or a survival: in order, at most 1, and at most w apart
pub record Chance (g : Grid) (w : ℕ) (e : Ends) : Type 0 where
  pub ordered : e.lower ≤ e.upper
  pub most : e.upper ≤ g.unit
  pub width : e.upper ≤ e.lower + w

-- and so at most any greater w
pub chance-wider : {g : Grid} {v w : ℕ} {e : Ends} → Chance g v e → v ≤ w → Chance g w e
chance-wider h l = record { ordered = h.ordered; most = h.most; width = omega (arith, h.width) }

-- ---- the widths

-- of the survival over factors that are at most these widths apart
unfoldable pub spread : List ℕ → ℕ
spread [] = 0
spread (w ∷ ws) = (w + 2) + spread ws

-- t times as wide, it is at most t times the survival's
pub spread-times : (t : ℕ) → 0 < t → (ws : List ℕ) → spread (map (λ (w : ℕ). t * w) ws) ≤ t * spread ws
unfolding spread
spread-times t l [] = omega arith
spread-times t l (w ∷ ws) = omega (arith, spread-times t l ws)

-- of the expectancy over them: those of the survivals over the first k + 1, one k for each factor
unfoldable pub spreads : List ℕ → ℕ
spreads ws = total (λ (k : ℕ). spread (take (suc k) ws)) (length ws)

-- ---- sums

pub sum-width : (f : ℕ → Ends) (w : ℕ → ℕ) (n : ℕ) → ((k : ℕ) → k < n → (f k).upper ≤ (f k).lower + w k)
    → (sum_over f n).upper ≤ (sum_over f n).lower + total w n
unfolding sum_over plus total
sum-width f w zero h = le_refl 0
sum-width f w (suc n) h = omega (arith, sum-width f w n (λ k l. h k (omega arith)), h n (omega arith))

-- ---- one factor

-- s'·p' against s·p, for s ≤ s' ≤ s + a and p ≤ p' ≤ p + b of at most U
product-width : (s s' p p' a b U : ℕ) → s' ≤ U → p' ≤ U → p ≤ p' → s' ≤ s + a → p' ≤ p + b → s' * p' ≤ s * p + (a + b) * U
product-width s s' p p' a b U hs hp o h k =
    omega (
      arith,
      mul-le-mul_left s' k,
      mul-le-mul_right p h,
      mul-le-mul_right b hs,
      mul-le-mul_left a (le_trans o hp),
    )

module _ (g : Grid) (positive : 0 < g.unit) where
  pub with-factor-chance : {a b : ℕ} {s p : Ends} → Chance g a s → Chance g b p → Chance g (a + (b + 2)) (with_factor g s p)
  unfolding with_factor
  with-factor-chance {a} {b} {s} {p} h k =
      let w = outward-width _ _ positive (a + b)
      (product-width s.lower s.upper p.lower p.upper a b g.unit h.most k.most k.ordered h.width k.width) in
      record {
        ordered = outward-ordered _ _ positive (mul-le-mul h.ordered k.ordered);
        most = (outward-most _ _ positive g.unit (mul-le-mul (le_trans h.ordered h.most) (le_trans k.ordered k.most))
            (mul-le-mul h.most k.most)).1;
        width = omega arith;
      }

  -- ---- the folds

  from-chance : {a : ℕ} {s : Ends} {ws : List ℕ} {es : List Ends} → Chance g a s → Forall₂ (Chance g) ws es
      → Chance g (a + spread ws) (survival_from g s es)
  unfolding survival_from spread
  from-chance h Forall₂.nil = chance-wider h (omega arith)
  from-chance {a = a} {s = s} h (Forall₂.cons {a = w} {b = e} k ks) =
      chance-wider (from-chance {a = a + (w + 2)} {s = with_factor g s e} (with-factor-chance h k) ks) (omega arith)

  pub one-chance : Chance g 0 (one g)
  unfolding one
  one-chance = record { ordered = le_refl g.unit; most = le_refl g.unit; width = omega arith }

  pub survival-chance : {ws : List ℕ} {es : List Ends} → Forall₂ (Chance g) ws es → Chance g (spread ws) (survival_over g es)
  unfolding survival_over
  survival-chance h = chance-wider (from-chance one-chance h) (omega arith)

  pub expectancy-width : {ws : List ℕ} {es : List Ends} → Forall₂ (Chance g) ws es
      → (expectancy_over g es).upper ≤ (expectancy_over g es).lower + spreads ws
  unfolding expectancy_over plus half spreads
  expectancy-width {ws} {es} h =
      rw (places-length h)
      (omega (
        arith,
        sum-width (survivals_over g es) (λ (k : ℕ). spread (take (suc k) ws)) (length es)
            (λ k l. (survival-chance (places-take (suc k) h)).width),
      ))
