-- What the two loops have after i factors: the survival over them, and the expectancy over them, each within its bound.
use mathlib.Core.Path.{◌≡◌, refl, ap, ap₂, sym, ◌∙◌}
use mathlib.Core.List.{List}
use Prim.Native.Nat.{ℕ, suc, ◌+◌, ◌*◌, ◌/◌, ◌≤◌, ◌<◌, zero-le}
use native.Mathlib.Nat.{add-zero}
use native.Mathlib.Numerals.{add-one}
use native.Mathlib.Omega.{arith}
use lib.ListN.{length, take, get_or}
use lib.Seq.{length-take-le, take-length}
use Rattle.number_exponential.specs.Grid.{Grid}
use Rattle.number_exponential.specs.declared.Ends.{Ends}
use Rattle.number_folds.specs.Folds.{one, half, with_factor, survival_from, survival_over, plus, sum_over, expectancy_over}
use Rattle.number_folds.specs.laws.Each.{each_take, each_at}
use Rattle.number_folds.specs.code.Code.{AtMost, most_factors, Chances}
use Rattle.number_folds.proofs.laws.Steps.{survival-next, expectancy-next}
use Rattle.number_folds.proofs.laws.Bounds.{survival-at-most, expectancy-at-most, years-at-most}

-- the factor that the code reads at i, with what would stand past the end
abbrev pub past : Ends
past = record { lower = 0; upper = 0 }

abbrev pub factor_at : List Ends → ℕ → Ends
factor_at factors i = get_or factors i past

-- the survival, and the expectancy, over the first i of the factors
abbrev survival_at : Grid → List Ends → ℕ → Ends
survival_at g factors i = survival_over g (take i factors)

abbrev expectancy_at : Grid → List Ends → ℕ → Ends
expectancy_at g factors i = expectancy_over g (take i factors)

pub record SurvivalTo (g : Grid) (factors : List Ends) (i : ℕ) (s : Ends) : Type 0 where
  pub is : s ≡ survival_at g factors i
  pub small : AtMost g.unit s

pub record ExpectancyTo (g : Grid) (factors : List Ends) (i : ℕ) (s : Ends) : Type 0 where
  pub is : s ≡ expectancy_at g factors i
  pub small : AtMost (suc most_factors * g.unit) s

module _ {g : Grid} {factors : List Ends} (k : Chances g factors) where
  -- the bounds follow
  survival-to : {i : ℕ} {s : Ends} → s ≡ survival_at g factors i → SurvivalTo g factors i s
  survival-to {i} e = record { is = e; small = rw e (survival-at-most g g.positive (each_take i k.each)) }

  expectancy-to : {i : ℕ} {s : Ends} → i ≤ length factors → s ≡ expectancy_at g factors i → ExpectancyTo g factors i s
  expectancy-to {i} l e =
      let n : length (take i factors) ≤ most_factors = rw (length-take-le i factors l) (omega (arith, k.room)) in
      record {
        is = e;
        small = rw e (years-at-most g g.positive most_factors n (expectancy-at-most g g.positive (each_take i k.each)));
      }

  -- each factor is at most 1
  pub factor-small : (i : ℕ) → i < length factors → AtMost g.unit (factor_at factors i)
  factor-small i l = each_at past k.each i l

  -- one factor more
  pub survival-more : {i : ℕ} {s r : Ends} → i < length factors → SurvivalTo g factors i s
      → r ≡ with_factor g s (factor_at factors i) → SurvivalTo g factors (i + 1) r
  survival-more {i} {s} {r} l h e =
      survival-to {i = i + 1}
      (e ∙ ap₂ (with_factor g) h.is refl ∙ sym (survival-next g factors i l past) ∙ ap (survival_at g factors) (sym (add-one i)))

  pub expectancy-more : {i : ℕ} {s r t : Ends} → i < length factors → ExpectancyTo g factors i s → SurvivalTo g factors (i + 1) r
      → t ≡ plus s r → ExpectancyTo g factors (i + 1) t
  expectancy-more {i} {s} {r} {t} l h j e =
      expectancy-to {i = i + 1} (omega arith)
      (e ∙ ap₂ plus h.is j.is
      ∙ ap (λ (n : ℕ). plus (expectancy_at g factors i) (survival_at g factors n)) (add-one i)
      ∙ sym (expectancy-next g factors i l)
      ∙ ap (expectancy_at g factors) (sym (add-one i)))

  -- no factor: 1, and one half
  pub survival-none : {n : ℕ} → n ≡ g.unit → SurvivalTo g factors 0 (record { lower = n; upper = n })
  unfolding survival_over survival_from one
  survival-none e = survival-to {i = 0} (ap (λ (n : ℕ). record { lower = n; upper = n }) e)

  pub expectancy-none : (n : ℕ) → n ≡ g.unit → ExpectancyTo g factors 0 (record { lower = n / 2; upper = n / 2 })
  unfolding expectancy_over sum_over plus half
  expectancy-none n e =
      expectancy-to {i = 0} zero-le
      (ap (λ (k : ℕ). record { lower = k; upper = k }) (ap (λ (k : ℕ). k / 2) e ∙ sym (add-zero (g.unit / 2))))

-- all of them
pub survival-all : {g : Grid} {factors : List Ends} {i : ℕ} {s : Ends} → i ≡ length factors → SurvivalTo g factors i s
    → s ≡ survival_over g factors
survival-all {g} {factors} e h = h.is ∙ ap (survival_at g factors) e ∙ ap (survival_over g) (take-length factors)

pub expectancy-all : {g : Grid} {factors : List Ends} {i : ℕ} {s : Ends} → i ≡ length factors → ExpectancyTo g factors i s
    → s ≡ expectancy_over g factors
expectancy-all {g} {factors} e h = h.is ∙ ap (expectancy_at g factors) e ∙ ap (expectancy_over g) (take-length factors)
