-- "On 1 January the answer is the cohort survival and the last cell isn't needed": of any set, within the term.
use Rattle.std.specs.Prelude.{◌≡◌, Bool, ℕ, suc, ◌+◌, ◌-◌, ◌≤◌, T, leb, ℤ, pos, negsuc}
use Rattle.std.proofs.Math.Path.{refl, ap₂, sym}
use Rattle.std.proofs.Common.{ap, ◌∙◌, zero-le, arith, le→leb}
use Rattle.std.proofs.Math.Bool.{true}
use Rattle.std.proofs.Math.IntN.{nat_abs}
use Rattle.std.specs.Float.Ieee.Bits.{is_true}
use Rattle.std.proofs.Math.Facts.{yes_and}
use Rattle.number_whole.proofs.laws.Clash.{clash}
use Rattle.number_fraction.specs.Ratio.{whole/}
use Rattle.number_exponential.specs.declared.Ends.{Ends}
use Rattle.number_exponential.specs.Units.{billionths}
use Rattle.number_exact.specs.Figure.{figure_of}
use Rattle.set_params.specs.declared.Params.{Params}
use Rattle.set_params.specs.Set.{year_number}
use Rattle.model_closure.specs.Weights.{last_closed}
use Rattle.quote_calendar.specs.Calendar.{is_day, day_of_year}
use Rattle.quote_paths.specs.Path.{path_of, part_year}
use Rattle.quote_paths.proofs.laws.Answers.{no_part}
use Rattle.quote_kinds.specs.declared.Kind.TheVariants.{CohortSurvival, Day}
use Rattle.quote_kinds.specs.Kinds.{rule_of, most_span, longest_span, count_of, span_of, date_part, part_of}
use Rattle.quote_table_tests.specs.TableTests.{between, year_in_table, date_in_table, span_in_table, rate_in_table, first_failed, table_tests}
use Rattle.quote_table_tests.proofs.laws.TableLaws.{within}
use Rattle.quote_along.specs.declared.Quote.{Quote}
use Rattle.quote_along.specs.QuoteBy.{quote_by}
use Rattle.quote.specs.Quote.{query_path, query_ends, refusal_of, quote_of, answer_by, answer_of}

between_more : (a b : ℕ) (z : ℤ) → a ≤ b → T (between (pos 0) (pos a) z) → between (pos 0) (pos b) z ≡ true
between_more a b (pos n) l t = let w = within 0 a (pos n) t in is_true _ (yes_and (leb 0 n) (leb n b) (le→leb 0 n zero-le) (le→leb n b (omega (arith, w.2))))
between_more a b (negsuc n) l t = let e = (within 0 a (negsuc n) t).0 in clash cc

module _ (p : Params) (age year date : ℤ) (is : T (is_day date)) (first : day_of_year (nat_abs date) ≡ 0)
    (inside : T (span_in_table (rule_of Day) age year date)) where
  -- the whole years
  abbrev span : ℤ
  span = span_of (rule_of Day) year date

  -- the last cell is not on the path
  pub same-path : query_path p.start Day age year date ≡ query_path p.start CohortSurvival age year span
  unfolding query_path rule_of count_of span_of part_of date_part whole/
  same-path =
      let n = year_number p.start year in
      let k = nat_abs span in
      let path = path_of true (nat_abs age) n k in
      no_part (nat_abs age + k) (n + k) (date_part (nat_abs date)) path first ∙ sym (no_part (nat_abs age + k) (n + k) (whole/ 0) path refl)

  -- each test passes for both, or for neither
  day-date : date_in_table (rule_of Day) date ≡ true
  unfolding date_in_table rule_of
  day-date = is_true (is_day date) is

  cohort-date : date_in_table (rule_of CohortSurvival) span ≡ true
  unfolding date_in_table rule_of
  cohort-date = refl

  cohort-span : span_in_table (rule_of CohortSurvival) age year span ≡ true
  unfolding span_in_table rule_of longest_span most_span span_of
  cohort-span = between_more (last_closed - nat_abs age) (suc last_closed - nat_abs age) span (omega arith) inside

  same-year : year_in_table p.start (rule_of Day) year ≡ year_in_table p.start (rule_of CohortSurvival) year
  unfolding year_in_table rule_of
  same-year = refl

  same-rate : rate_in_table (rule_of Day) ≡ rate_in_table (rule_of CohortSurvival)
  unfolding rate_in_table rule_of
  same-rate = refl

  same-refusal : refusal_of p Day age year date ≡ refusal_of p CohortSurvival age year span
  unfolding refusal_of table_tests first_failed
  same-refusal = rw (day-date, cohort-date, is_true (span_in_table (rule_of Day) age year date) inside, cohort-span, same-year, same-rate, same-path)

  same-quote : quote_of p Day age year date ≡ quote_of p CohortSurvival age year span
  unfolding quote_of query_ends rule_of quote_by
  same-quote = rw same-path

  pub first-of-january : answer_of p Day age year date ≡ answer_of p CohortSurvival age year span
  unfolding answer_of
  first-of-january = ap₂ answer_by same-refusal same-quote
