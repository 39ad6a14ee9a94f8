-- What the two loops have after k terms: the k-th power and the sum of k terms, each with the bound by which it fits.
use mathlib.Core.Path.{◌≡◌, refl, sym, ap, ◌∙◌}
use Prim.Native.Nat.{ℕ, suc, ◌+◌, ◌-◌, ◌*◌, ◌/◌, ◌≤◌, ◌<◌}
use native.Mathlib.Nat.{le_refl, div-le_self, div-one, mul-div_cancel, mul-le-mul, add-zero, zero-add}
use native.Mathlib.Numerals.{add-one}
use native.Mathlib.Omega.{arith}
use lib.Dec.{lit≤}
use Rattle.number_whole.specs.Division.{ceil_div_ℕ}
use Rattle.number_whole.proofs.laws.DivisionLaws.{ceilℕ-least, ceilℕ-exact}
use Rattle.number_exponential.specs.Grid.{Grid}
use Rattle.number_exponential.specs.declared.GridUnit.{GridUnit}
use Rattle.number_exponential.specs.declared.GridUnit.TheVariants.{Coarse, Fine}
use Rattle.number_exponential.specs.Units.{grid_of, ten_trillionths}
use Rattle.number_products.specs.laws.Units.{unit-most}
use Rattle.model_logarithm.specs.Logarithm.{power_lower, power_upper, log_terms_lower, log_terms_upper, log_rest, log_lower, log_upper}
use Rattle.model_logarithm.proofs.laws.Powers.{power-lower-bound, power-upper-bound}
use Rattle.model_logarithm.proofs.laws.RunOut.{lower-run, upper-run}

-- the powers are those of `powers` and the sums those of `sums`
pub record Steps (g : Grid) (powers sums : ℕ → ℕ) (power sum k : ℕ) : Type 0 where
  pub power-is : power ≡ powers k
  pub power_small : power ≤ g.unit
  pub sum_is : sum ≡ sums k
  pub sum-small : sum ≤ k * g.unit
  pub counted : k ≤ g.log_terms

abbrev pub LowerSteps : Grid → ℕ → ℕ → ℕ → ℕ → Type 0
LowerSteps g u = Steps g (power_lower g u) (log_terms_lower g u)

abbrev pub UpperSteps : Grid → ℕ → ℕ → ℕ → ℕ → Type 0
UpperSteps g u = Steps g (power_upper g u) (log_terms_upper g u)

-- the terms are few, and so many ends fit
pub few-terms : (u : GridUnit) → (2 ≤ (grid_of u).log_terms) × ((grid_of u).log_terms ≤ 50)
unfolding grid_of
few-terms Coarse = (lit≤ tt, lit≤ tt)
few-terms Fine = (lit≤ tt, lit≤ tt)

pub room : (u : GridUnit) (k : ℕ) {x : ℕ} → k ≤ (grid_of u).log_terms → x ≤ k * (grid_of u).unit → x ≤ 50 * ten_trillionths.unit
room u k {x} h l = omega (arith, mul-le-mul {n₁ = k} {n₂ = 50} (omega (arith, few-terms u)) (unit-most u))

-- x / (k + 1) rounded up, as the code works it
ceil-place : (x k : ℕ) → (x + k) / suc k ≡ ceil_div_ℕ x (suc k)
unfolding ceil_div_ℕ
ceil-place x k = let e : suc k - 1 ≡ k = omega arith in rw e

module _ (g : Grid) where
  -- before the first term
  lower-none : (u : ℕ) → LowerSteps g u g.unit 0 0
  unfolding power_lower log_terms_lower
  lower-none u =
      record { power-is = refl; power_small = le_refl _; sum_is = refl; sum-small = omega arith; counted = omega arith }

  upper-none : (u : ℕ) → UpperSteps g u g.unit 0 0
  unfolding power_upper log_terms_upper
  upper-none u =
      record { power-is = refl; power_small = le_refl _; sum_is = refl; sum-small = omega arith; counted = omega arith }

  module _ {u : ℕ} (h : u ≤ g.unit) where
    -- the next power
    lower-next : {power sum k : ℕ} → LowerSteps g u power sum k
        → (u * power / g.unit ≡ power_lower g u (suc k)) × (u * power / g.unit ≤ g.unit)
    unfolding power_lower
    lower-next {power} {sum} {k} p =
        let e : u * power / g.unit ≡ power_lower g u (suc k) = rw p.power-is in
        (e, rw e (power-lower-bound g g.positive u h (suc k)))

    upper-next : {power sum k : ℕ} → UpperSteps g u power sum k
        → (ceil_div_ℕ (u * power) g.unit ≡ power_upper g u (suc k)) × (ceil_div_ℕ (u * power) g.unit ≤ g.unit)
    unfolding power_upper
    upper-next {power} {sum} {k} p =
        let e : ceil_div_ℕ (u * power) g.unit ≡ power_upper g u (suc k) = rw p.power-is in
        (e, rw e (power-upper-bound g g.positive u h (suc k)))

    -- one term more
    pub lower-more : {power sum k : ℕ} → LowerSteps g u power sum k → k < g.log_terms
        → LowerSteps g u (u * power / g.unit) (sum + u * power / g.unit / (k + 1)) (k + 1)
    unfolding log_terms_lower
    lower-more {power} {sum} {k} p l =
        let n = lower-next p in
        rw (add-one k)
        (record {
          power-is = n.0;
          power_small = n.1;
          sum_is = rw (n.0, p.sum_is);
          sum-small = omega (arith, div-le_self (u * power / g.unit) (suc k));
          counted = l;
        })

    pub upper-more : {power sum k : ℕ} → UpperSteps g u power sum k → k < g.log_terms
        → UpperSteps g u (ceil_div_ℕ (u * power) g.unit) (sum + (ceil_div_ℕ (u * power) g.unit + k) / (k + 1)) (k + 1)
    unfolding log_terms_upper
    upper-more {power} {sum} {k} p l =
        let n = upper-next p in
        let q = ceilℕ-least g.unit (ceil_div_ℕ (u * power) g.unit) {m = suc k} (omega arith) (omega arith) in
        rw (add-one k, ceil-place (ceil_div_ℕ (u * power) g.unit) k)
        (record {
          power-is = n.0;
          power_small = n.1;
          sum_is = rw (n.0, p.sum_is);
          sum-small = omega arith;
          counted = l;
        })

    module _ (two : 2 ≤ g.log_terms) where
      -- the first power is u
      lower-first : LowerSteps g u u u 1
      lower-first =
          let e : u * g.unit / g.unit ≡ u = mul-div_cancel u g.positive in
          let d : 0 + u / (0 + 1) ≡ u = zero-add _ ∙ div-one u in
          rw d at (rw e at (lower-more (lower-none u) (omega arith)))

      upper_first : UpperSteps g u u u 1
      upper_first =
          let e : ceil_div_ℕ (u * g.unit) g.unit ≡ u = ceilℕ-exact u g.positive in
          let d : 0 + (u + 0) / (0 + 1) ≡ u = rw (add-zero u) (zero-add _ ∙ div-one u) in
          rw d at (rw e at (upper-more (upper-none u) (omega arith)))

      -- the second is over 2
      pub lower-second : {power : ℕ} → power ≡ u * u / g.unit → LowerSteps g u power (u + power / 2) 2
      lower-second e = rw e (lower-more lower-first two)

      pub upper-second : {power : ℕ} → power ≡ ceil_div_ℕ (u * u) g.unit → UpperSteps g u power (u + (power + 1) / 2) 2
      upper-second e = rw e (upper-more upper_first two)

    -- after the last term, the rest with the number of terms in t
    pub upper-done : {power sum k t next rest : ℕ} → UpperSteps g u power sum k → k ≡ t → t ≡ g.log_terms
        → next ≡ ceil_div_ℕ (u * power) g.unit → rest ≡ (2 * next + t) / (t + 1) → sum + rest ≡ log_upper g u
    unfolding log_upper log_rest
    upper-done {power} {sum} {k} {t} {next} {rest} p e d n r =
        let q : next ≡ power_upper g u (suc g.log_terms) =
        n ∙ (upper-next p).0 ∙ ap (λ (m : ℕ). power_upper g u (suc m)) (e ∙ d) in
        let o : rest ≡ ceil_div_ℕ (2 * next) (suc g.log_terms) =
        r ∙ ap (λ (m : ℕ). (2 * next + t) / m) (add-one t) ∙ ceil-place (2 * next) t ∙ ap (λ (m : ℕ). ceil_div_ℕ (2 * next) (suc m)) d in
        rw (o, q)
        (ap (λ (m : ℕ). m + ceil_div_ℕ (2 * power_upper g u (suc g.log_terms)) (suc g.log_terms))
        (p.sum_is ∙ ap (log_terms_upper g u) (e ∙ d)))

    -- after a term from which on the powers are at most 1
    pub upper-out : (k : ℕ) {power sum t : ℕ} → UpperSteps g u power sum (k + 1) → power ≤ 1 → t ≡ g.log_terms
        → sum + power * (t + 1 - (k + 1)) ≡ log_upper g u
    upper-out k {power} {sum} {t} p s d =
        let q = rw (add-one k) at p in
        rw (d, add-one g.log_terms, add-one k) (ap (λ (n : ℕ). n + power * (suc g.log_terms - suc k)) q.sum_is
        ∙ sym (upper-run g u h k s (sym q.power-is) q.counted))

  pub lower-done : (u : ℕ) {power sum k : ℕ} → LowerSteps g u power sum k → k ≡ g.log_terms → sum ≡ log_lower g u
  unfolding log_lower
  lower-done u p e = p.sum_is ∙ ap (log_terms_lower g u) e

  -- and 0
  pub lower-out : (u : ℕ) {power sum k : ℕ} → LowerSteps g u power sum k → power ≡ 0 → sum ≡ log_lower g u
  unfolding log_lower
  lower-out u {k = k} p z =
      let e : k + (g.log_terms - k) ≡ g.log_terms = omega (arith, p.counted) in
      p.sum_is ∙ sym (lower-run g u k _ (sym p.power-is ∙ z)) ∙ ap (log_terms_lower g u) e
