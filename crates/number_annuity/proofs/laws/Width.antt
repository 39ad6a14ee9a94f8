-- How far apart the price's ends lie: 2 units a year for the discount, and for each payment as far as those of its
-- discount and its survival together and 2 units more.
use Rattle.std.specs.Prelude.{◌≡◌, refl, length, take}
use mathlib.Core.List.{List, Forall₂}
use Prim.Native.Nat.{ℕ, zero, suc, ◌+◌, ◌*◌, ◌≤◌, ◌<◌}
use native.Mathlib.Omega.{arith}
use Rattle.number_fraction.proofs.laws.Places.{places-length, places-take}
use Rattle.number_exponential.specs.Grid.{Grid}
use Rattle.number_exponential.specs.declared.Ends.{Ends}
use Rattle.number_exponential.specs.Exponential.{total}
use Rattle.number_exponential.proofs.laws.OutwardLaws.{outward-ordered, outward-width, outward-most}
use Rattle.number_folds.proofs.laws.Width.{Chance, chance-wider, spread, spreads, sum-width, one-chance, with-factor-chance, survival-chance}
use Rattle.number_annuity.specs.Annuity.{rate_unit, discounted, discount_over, payment_after, annuity_over}
use Rattle.number_annuity.proofs.laws.Bounds.{divisor-positive}

-- ---- the widths

-- of the payment after k years, over factors that are at most these widths apart
abbrev payment_spread : List ℕ → ℕ → ℕ
payment_spread ws k = 2 * k + (spread (take k ws) + 2)

-- of the price: those of the survivals in it, and for n factors (n + 1)·(n + 2) units more
unfoldable pub price_spread : List ℕ → ℕ
price_spread ws = spreads ws + suc (length ws) * (length ws + 2)

-- the sum of the payments' widths
payments : (ws : List ℕ) (n : ℕ)
    → total (payment_spread ws) (suc n) ≡ total (λ (k : ℕ). spread (take (suc k) ws)) n + suc n * (n + 2)
unfolding total spread
payments ws zero = refl
payments ws (suc n) = let e = payments ws n in omega arith

-- ---- one year of discount

module _ (g : Grid) (positive : 0 < g.unit) (rate : ℕ) where
  discounted-chance : {a : ℕ} {d : Ends} → Chance g a d → Chance g (a + 2) (discounted rate d)
  unfolding discounted
  discounted-chance {a} {d} h =
      let p = divisor-positive rate in
      let x = d.lower * rate_unit in
      let y = d.upper * rate_unit in
      record {
        ordered = outward-ordered x y p (omega (arith, h.ordered));
        most = (outward-most x y p g.unit (omega (arith, h.ordered, h.most)) (omega (arith, h.most))).1;
        width = outward-width x y p a (omega (arith, h.width));
      }

  -- the discount over k years is a chance at most 2·k wide
  pub discount-chance : (k : ℕ) → Chance g (2 * k) (discount_over g rate k)
  unfolding discount_over
  discount-chance zero = one-chance g positive
  discount-chance (suc k) = chance-wider (discounted-chance (discount-chance k)) (omega arith)

  module _ {ws : List ℕ} {es : List Ends} (h : Forall₂ (Chance g) ws es) where
    pub payment-chance : (k : ℕ) → Chance g (payment_spread ws k) (payment_after g rate es k)
    unfolding payment_after
    payment-chance k =
        with-factor-chance g positive (discount-chance k) (survival-chance g positive (places-take k h))

    pub annuity-width : (annuity_over g rate es).upper ≤ (annuity_over g rate es).lower + price_spread ws
    unfolding annuity_over price_spread spreads
    annuity-width =
        rw (places-length h)
        (omega (
          arith,
          sum-width (payment_after g rate es) (payment_spread ws) (suc (length es)) (λ k l. (payment-chance k).width),
          payments ws (length es),
        ))
