-- The orders of the values along an answered path narrow: for every whole M there is an order from which on the bracket is
-- at most 1/M wide. Of k factors each has at most 1/(M·(k·(k + 1) + 1)).
use Rattle.std.specs.Prelude.{◌≡◌, List, nat_abs}
use Prim.Native.Nat.{ℕ, suc, ◌*◌, ◌≤◌, ◌<◌}
use Rattle.std.proofs.Common.{le_refl, mul-pos, arith}
use Rattle.std.proofs.Math.ListN.{length}
use Rattle.std.proofs.lemmas.List.{length-map}
use Rattle.number_fraction.specs.Ratio.{Ratio, ◌≤/◌, whole/, quotient/, ◌+/◌}
use Rattle.number_fraction.proofs.laws.RatioLaws.{≤/-refl, ≤/-trans, +/-mono}
use Rattle.number_fraction.proofs.laws.Multiples.{times-part}
use Rattle.number_fraction.specs.Bracket.{Bracket}
use Rattle.set_params.specs.declared.Params.{Params}
use Rattle.number_exact.specs.Value.{Narrows}
use Rattle.number_folds.specs.laws.Each.{Each, each_map}
use Rattle.number_folds.specs.Exact.{order_survival_over, order_expectancy_over}
use Rattle.number_folds.proofs.laws.Narrowing.{OrderChance, survival-narrow, expectancy-narrow}
use Rattle.number_annuity.specs.Exact.{order_annuity_over}
use Rattle.number_annuity.proofs.laws.Narrowing.{annuity-narrow}
use Rattle.model_mortality.proofs.laws.Narrowing.{death_order, death_order-counts, survival-least-one, survival-most-one, p-narrow, complement-narrow}
use Rattle.quote_paths.specs.Path.{Place, order_factors}
use Rattle.quote_paths.specs.declared.Fold.{Fold}
use Rattle.quote_paths.specs.declared.Fold.TheVariants.{Death, Survival, Expectancy, Annuity}
use Rattle.quote_paths.specs.Values.{order_death_of, order_fold_over, exact_value}
use Rattle.quote_paths.proofs.laws.Answers.{AnsweredPath}

-- the parts that 1/M is divided into, for k factors
abbrev pub parts : ℕ → ℕ → ℕ
parts k M = M * suc (k * suc k)

pub parts-positive : (k M : ℕ) → 0 < M → 0 < parts k M
parts-positive k M h = mul-pos h (omega arith)

abbrev pub part : (k M : ℕ) → 0 < M → Ratio
part k M h = quotient/ (whole/ 1) (parts k M) (parts-positive k M h)

-- a survival takes at most k of them, and an expectancy at most k²
survival-parts : (k : ℕ) → k ≤ k * suc k
survival-parts k = omega arith

expectancy-parts : (k : ℕ) → k * k ≤ k * suc k
expectancy-parts k = omega arith

pub order-length : (p : Params) (path : List Place) (j : ℕ) → length (order_factors p path j) ≡ length path
unfolding order_factors
order-length p path j = length-map path _

-- each fold over as many factors, each at most one part wide
module _ {bs : List Bracket} (M : ℕ) (h : 0 < M) (e : Each (OrderChance (part (length bs) M h)) bs) where
  survival-most : (order_survival_over bs).most ≤/ (order_survival_over bs).least +/ quotient/ (whole/ 1) M h
  survival-most =
      ≤/-trans (survival-narrow (part (length bs) M h) e).width
      (+/-mono (≤/-refl (order_survival_over bs).least)
      (times-part (length bs) (length bs * suc (length bs)) M h (parts-positive (length bs) M h) (survival-parts (length bs))))

  fold-narrow : (f : Fold) → (order_fold_over f bs).most ≤/ (order_fold_over f bs).least +/ quotient/ (whole/ 1) M h
  unfolding order_fold_over order_death_of
  fold-narrow Death =
      complement-narrow (order_survival_over bs).least (order_survival_over bs).most (quotient/ (whole/ 1) M h)
      (survival-narrow (part (length bs) M h) e).least (survival-narrow (part (length bs) M h) e).most survival-most
  fold-narrow Survival = survival-most
  fold-narrow Expectancy =
      ≤/-trans (expectancy-narrow (part (length bs) M h) e)
      (+/-mono (≤/-refl (order_expectancy_over bs).least)
      (times-part (length bs * length bs) (length bs * suc (length bs)) M h (parts-positive (length bs) M h)
      (expectancy-parts (length bs))))
  fold-narrow (Annuity rate) =
      ≤/-trans (annuity-narrow (nat_abs rate) (part (length bs) M h) e)
      (+/-mono (≤/-refl (order_annuity_over (nat_abs rate) bs).least)
      (times-part (length bs * suc (length bs)) (length bs * suc (length bs)) M h (parts-positive (length bs) M h) (le_refl _)))

module _ {p : Params} {path : List Place} (a : AnsweredPath p path) where
  -- from this order on each factor is at most one part wide, of the parts for k factors
  pub factors-narrow : (k M : ℕ) (h : 0 < M) (j : ℕ) → death_order (parts k M) ≤ j
      → Each (OrderChance (part k M h)) (order_factors p path j)
  unfolding order_factors
  factors-narrow k M h j l =
      each_map _ (λ c t. record {
        least = survival-least-one p c.age c.year c.part j;
        most = survival-most-one p c.age c.year c.part j;
        width = p-narrow t.cell (parts k M) (parts-positive k M h) j l t.within;
      }) a

  pub value-narrows : (f : Fold) → Narrows (exact_value f p path)
  unfolding exact_value
  value-narrows f =
      record {
        order = λ M. death_order (parts (length path) M);
        counts = λ M. death_order-counts (parts (length path) M);
        narrow = λ M h j l.
            fold-narrow {bs = order_factors p path j} M h (rw (order-length p path j) (factors-narrow (length path) M h j l)) f;
      }
