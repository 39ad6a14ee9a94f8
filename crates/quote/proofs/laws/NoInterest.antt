-- At rate 0 the exact price of an annuity is the exact expectancy of the same age and year, and a half.
use Rattle.std.specs.Prelude.{ℕ, ℤ, pos}
use Rattle.set_params.specs.declared.Params.{Params}
use Rattle.number_folds.specs.Exact.{exactly, half/, order_plus}
use Rattle.number_annuity.proofs.laws.Same.{Same}
use Rattle.quote_paths.proofs.laws.NoInterest.{annuity-without-interest}
use Rattle.quote_kinds.specs.declared.Kind.TheVariants.{CohortExpectancy, PeriodExpectancy, CohortAnnuity, PeriodAnnuity}
use Rattle.quote_kinds.specs.Kinds.{rule_of, count_of, span_of, part_of}
use Rattle.quote.specs.Quote.{query_path, exact_query}

module _ (p : Params) (age year term : ℤ) (j : ℕ) where
  pub cohort-without-interest : Same (exact_query p (CohortAnnuity (pos 0)) age year term j)
      (order_plus (exactly half/) (exact_query p CohortExpectancy age year term j))
  unfolding exact_query query_path rule_of count_of part_of span_of
  cohort-without-interest = annuity-without-interest p _ j

  pub period-without-interest : Same (exact_query p (PeriodAnnuity (pos 0)) age year term j)
      (order_plus (exactly half/) (exact_query p PeriodExpectancy age year term j))
  unfolding exact_query query_path rule_of count_of part_of span_of
  period-without-interest = annuity-without-interest p _ j
