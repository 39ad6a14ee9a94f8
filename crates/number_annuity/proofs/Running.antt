-- What the loop has after i factors: the discount over i years and the price over the factors, each within its bound.
use mathlib.Core.Path.{◌≡◌, ap, ap₂, sym, ◌∙◌}
use mathlib.Core.List.{List}
use Prim.Native.Nat.{ℕ, suc, ◌+◌, ◌*◌, ◌≤◌, ◌<◌, zero-le}
use native.Mathlib.Nat.{mul-le-mul_right}
use native.Mathlib.Numerals.{add-one}
use native.Mathlib.Omega.{arith}
use lib.ListN.{length, take}
use lib.Seq.{length-take-le, take-length}
use Rattle.number_exponential.specs.Grid.{Grid}
use Rattle.number_exponential.specs.declared.Ends.{Ends}
use Rattle.number_folds.specs.Folds.{one, with_factor, plus}
use Rattle.number_folds.specs.laws.Each.{each_take}
use Rattle.number_folds.specs.code.Code.{AtMost, most_factors, Chances}
use Rattle.number_folds.proofs.laws.Bounds.{with-factor-at-most}
use Rattle.number_folds.proofs.Running.{SurvivalTo}
use Rattle.number_annuity.specs.Annuity.{discounted, discount_over, payment_after, annuity_over}
use Rattle.number_annuity.proofs.laws.Steps.{annuity-none, annuity-next}
use Rattle.number_annuity.proofs.laws.Bounds.{discount-at-most, annuity-at-most}

pub record DiscountTo (g : Grid) (rate i : ℕ) (d : Ends) : Type 0 where
  pub is : d ≡ discount_over g rate i
  pub small : AtMost g.unit d

-- the price over the first i of the factors
abbrev price_at : Grid → ℕ → List Ends → ℕ → Ends
price_at g rate factors i = annuity_over g rate (take i factors)

pub record PriceTo (g : Grid) (rate : ℕ) (factors : List Ends) (i : ℕ) (s : Ends) : Type 0 where
  pub is : s ≡ price_at g rate factors i
  pub small : AtMost (suc most_factors * g.unit) s

-- ---- the discount

discount-to : {g : Grid} {rate i : ℕ} {d : Ends} → d ≡ discount_over g rate i → DiscountTo g rate i d
discount-to {g} {rate} {i} e = record { is = e; small = rw e (discount-at-most g g.positive rate i) }

-- over no year it is 1
pub discount-none : {g : Grid} {rate n : ℕ} → n ≡ g.unit → DiscountTo g rate 0 (record { lower = n; upper = n })
unfolding discount_over one
discount-none e = discount-to (ap (λ (n : ℕ). record { lower = n; upper = n }) e)

-- over one year more
pub discount-more : {g : Grid} {rate i : ℕ} {d r : Ends} → DiscountTo g rate i d → r ≡ discounted rate d
    → DiscountTo g rate (i + 1) r
unfolding discount_over
discount-more {g} {rate} {i} h e =
    discount-to (e ∙ ap (discounted rate) h.is ∙ ap (discount_over g rate) (sym (add-one i)))

-- ---- the payment after i years

pub record PaymentTo (g : Grid) (rate : ℕ) (factors : List Ends) (i : ℕ) (s : Ends) : Type 0 where
  pub is : s ≡ payment_after g rate factors i
  pub small : AtMost g.unit s

pub payment-to : {g : Grid} {rate : ℕ} {factors : List Ends} {i : ℕ} {d s r : Ends} → DiscountTo g rate i d
    → SurvivalTo g factors i s → r ≡ with_factor g d s → PaymentTo g rate factors i r
unfolding payment_after
payment-to {g} h j e =
    record {
      is = e ∙ ap₂ (with_factor g) h.is j.is;
      small = rw e (with-factor-at-most g g.positive h.small j.small);
    }

-- ---- the price

module _ {g : Grid} (rate : ℕ) {factors : List Ends} (k : Chances g factors) where
  price-to : {i : ℕ} {s : Ends} → i ≤ length factors → s ≡ price_at g rate factors i → PriceTo g rate factors i s
  price-to {i} l e =
      let a = annuity-at-most g g.positive rate (each_take i k.each) in
      let n : suc (length (take i factors)) ≤ suc most_factors =
      rw (length-take-le i factors l) (omega (arith, k.room)) in
      let m = mul-le-mul_right g.unit n in
      record { is = e; small = rw e (record { lower = omega (arith, a.lower); upper = omega (arith, a.upper) }) }

  -- over no factor it is the payment now
  pub price-none : {n : ℕ} → n ≡ g.unit → PriceTo g rate factors 0 (record { lower = n; upper = n })
  unfolding one
  price-none e =
      price-to {i = 0} zero-le
      (ap (λ (n : ℕ). record { lower = n; upper = n }) e ∙ sym (annuity-none g rate g.positive factors))

  -- over one factor more it has one payment more
  pub price-more : {i : ℕ} {s r t : Ends} → i < length factors → PriceTo g rate factors i s → PaymentTo g rate factors (i + 1) r
      → t ≡ plus s r → PriceTo g rate factors (i + 1) t
  price-more {i} {s} {r} {t} l h j e =
      price-to {i = i + 1} (omega arith)
      (e ∙ ap₂ plus h.is j.is
      ∙ ap (λ (n : ℕ). plus (price_at g rate factors i) (payment_after g rate factors n)) (add-one i)
      ∙ sym (annuity-next g rate factors i l)
      ∙ ap (price_at g rate factors) (sym (add-one i)))

-- the price over all of them
pub price-all : {g : Grid} {rate : ℕ} {factors : List Ends} {i : ℕ} {s : Ends} → i ≡ length factors → PriceTo g rate factors i s
    → s ≡ annuity_over g rate factors
price-all {g} {rate} {factors} e h = h.is ∙ ap (price_at g rate factors) e ∙ ap (annuity_over g rate) (take-length factors)
