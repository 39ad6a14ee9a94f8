-- The starred edges hold, each row by computing the definitions. A set's sheet is not computed byte by byte: it reads back as the
-- set where the set is in limits, and else is refused.
use Rattle.std.specs.Prelude.{◌≡◌, refl, false, List, [], ℕ, T, ℤ, pos, Ok, Err}
use Rattle.std.proofs.Math.Path.{ap}
use Rattle.std.proofs.Common.{◌∙◌, arith}
use Rattle.std.specs.Float.Ieee.Bits.{is_true}
use Rattle.number_whole.specs.Listed.{listed}
use Rattle.number_whole.specs.Division.{floor_div, ceil_div, ceil_div_ℕ}
use Rattle.number_whole.specs.SignedEnds.{least_product, greatest_product, outward}
use Rattle.number_fraction.specs.Ratio.{whole/}
use Rattle.number_taylor.specs.Alternating.{double}
use Rattle.number_exponential.specs.Exponential.{next_lower, next_upper, term_lower, term_upper, total, evens, odds, sum_lower, sum_upper}
use Rattle.number_exponential.specs.Exponential.{constant_lower, constant_upper, exp_lower, exp_upper, exp_between}
use Rattle.number_exponential.specs.Units.{whole_parts}
use Rattle.text_tokens.specs.Text.{bytes_of, taken, take_text}
use Rattle.text_tokens.specs.Number.{decimal, unsigned_text}
use Rattle.set_params.specs.declared.Params.{Params}
use Rattle.set_params.specs.Set.{A, B, alpha, beta, year_number}
use Rattle.set_params.specs.code.Runs.{Whole}
use Rattle.set_limits.specs.InLimits.{all_below, last_start_of, constant_limit_of, table_in_limits, series_in_limits, age_in_limits, in_limits}
use Rattle.set_limits.specs.laws.LimitsLaws.{sizes-decide}
use Rattle.set_refusal.specs.Refusals.{refusal_number}
use Rattle.sheet.specs.declared.Reading.{Reading}
use Rattle.sheet.specs.Sheet.{if_li_lee, age_values, values, sheet_text, refused, read_sheet, by_sheet}
use Rattle.sheet.proofs.laws.SetTrip.{Shown, ag2014-shown}
use Rattle.sheet.proofs.laws.SheetTrip.{AllSmall, in-limits-small, written-reads-back, written-out-of-limits}
use Rattle.set_series.specs.Series.{period_in, kappa_in, kappa_step, in_grid}
use Rattle.model_log_force.specs.LogForce.{cell_force, log_force, in_range}
use Rattle.model_closure.specs.Weights.{first_closed, weight}
use Rattle.model_closure.specs.code.Table.{closed, weight_row, row_total, beside, totalled, ruled}
use Rattle.model_closure.proofs.laws.WeightLaws.{row-total}
use Rattle.model_mortality.specs.Cell.{needed_in_range}
use Rattle.number_exact.specs.Figure.{half_up, figure_of}
use Rattle.quote_paths.specs.Path.{place_at, path_of, part_year, path_in_range}
use Rattle.quote_kinds.specs.declared.Kind.{Kind}
use Rattle.quote_kinds.specs.declared.Kind.TheVariants as kind
use Rattle.quote_kinds.specs.Kinds.{takes_rate, rule_of, rate_of, most_span, longest_span, span_of, part_of, count_of, step_of, decimals_of}
use Rattle.quote_table_tests.specs.TableTests.{age_in_table, year_in_table, date_in_table, span_in_table, rate_in_table, first_failed, table_tests}
use Rattle.quote_along.specs.QuoteBy.{Answer}
use Rattle.quote.specs.Quote.{query_path, refusal_of, answer_of}
use Rattle.quote.specs.Demand.{number_of}
use Rattle.quote.proofs.laws.Theorem.{demand-met}
use Rattle.run_query.specs.Query.{word_of, on_offer, read_word, alone, whole_word}
use Rattle.run_figure_text.specs.FigureText.{last_digits, steps_text, figure_text}
use Rattle.c_sheet_quote.specs.SheetQuote.{word_kind, kind_of, answer_to, sheet_answer, quote_length, quoted_no, quote_no}
use Rattle.c_edges.specs.examples.Edges.{set_of, with_theta, with_force, call_number, printed_text, minus, StarredEdges}

-- ---- the number of a call, with room for a quote

answer-number : (a : Answer) → quote_no a quote_length ≡ number_of a
unfolding quote_no quoted_no number_of refusal_number
answer-number (Ok q) = refl
answer-number (Err r) = refl

module _ (word : List ℕ) (kind : Kind) (read : kind_of word ≡ taken kind []) (p : Params) (age year term : ℤ) where
  -- of a kind's word the answer is that of what was read
  answer-read : {got : Reading} → read_sheet (sheet_text p) ≡ got
      → sheet_answer (sheet_text p) (kind_of word) age year term ≡ answer_to (taken kind []) got age year term
  unfolding sheet_answer
  answer-read e = rw (read) (ap (λ (g : Reading). answer_to (taken kind []) g age year term) e)

  module _ (w : Whole p) where
    -- of a set in limits it is the number of the query's refusal
    number-within : T (in_limits p)
        → quote_no (sheet_answer (sheet_text p) (kind_of word) age year term) quote_length ≡ refusal_number (refusal_of p kind age year term)
    unfolding answer_to by_sheet refusal_number
    number-within t =
        ap (λ (a : Answer). quote_no a quote_length) (answer-read (written-reads-back p w t))
        ∙ answer-number (answer_of p kind age year term)
        ∙ (demand-met p kind age year term).alone.number

    -- and else 2
    number_past : Shown p → AllSmall (values p) → in_limits p ≡ false
        → quote_no (sheet_answer (sheet_text p) (kind_of word) age year term) quote_length ≡ 2
    unfolding answer_to by_sheet refusal_number refused quote_no
    number_past h s e = ap (λ (a : Answer). quote_no a quote_length) (answer-read (written-out-of-limits p w h s e))

-- ---- the kinds' words

read-coh : kind_of (bytes_of "coh") ≡ taken kind.CohortSurvival []
unfolding bytes_of take_text word_of on_offer rule_of takes_rate read_word alone whole_word word_kind kind_of
read-coh = refl

read-q : kind_of (bytes_of "q") ≡ taken kind.Death []
unfolding bytes_of take_text word_of on_offer rule_of takes_rate read_word alone whole_word word_kind kind_of
read-q = refl

-- ---- the sets

set-whole : (a theta kappa level : ℤ) → Whole (set_of a theta kappa level)
unfolding set_of
set-whole a theta kappa level = record { level = refl; slope = refl; alpha = refl; beta = refl }

theta-within : T (in_limits (with_theta 2923976608))
unfolding all_below table_in_limits last_start_of constant_limit_of series_in_limits age_in_limits A B alpha beta set_of
theta-within = sizes-decide (with_theta 2923976608) refl tt tt tt

theta-past : in_limits (with_theta 2923976609) ≡ false
unfolding in_limits table_in_limits last_start_of constant_limit_of series_in_limits set_of
theta-past = refl

theta-shown : Shown (with_theta 2923976609)
unfolding set_of
theta-shown = ag2014-shown (with_theta 2923976609) refl refl refl

-- theta alone differs from a set that is in limits
theta-small : AllSmall (values (with_theta 2923976609))
unfolding values if_li_lee age_values A B alpha beta set_of
theta-small =
    let s = in-limits-small (with_theta 2923976608) theta-within in (s.0, (omega arith, s.1.1))

force-within : T (in_limits (with_force (minus 700000000)))
unfolding all_below table_in_limits last_start_of constant_limit_of series_in_limits age_in_limits A B alpha beta set_of
force-within = sizes-decide (with_force (minus 700000000)) refl tt tt tt

next-within : T (in_limits (with_force (minus 699999999)))
unfolding all_below table_in_limits last_start_of constant_limit_of series_in_limits age_in_limits A B alpha beta set_of
next-within = sizes-decide (with_force (minus 699999999)) refl tt tt tt

-- ---- their queries

theta-passes : refusal_number (refusal_of (with_theta 2923976608) kind.CohortSurvival (pos 65) (pos 2020) (pos 0)) ≡ 0
unfolding A B alpha beta set_of refusal_of first_failed table_tests refusal_number year_number
    age_in_table year_in_table date_in_table span_in_table rate_in_table rule_of rate_of most_span longest_span span_of part_of count_of query_path
    path_of part_year whole/ listed path_in_range
theta-passes = rw (is_true (in_limits (with_theta 2923976608)) theta-within)

force-passes : refusal_number (refusal_of (with_force (minus 700000000)) kind.Death (pos 65) (pos 2020) (pos 0)) ≡ 0
unfolding A B alpha beta set_of refusal_of first_failed table_tests refusal_number year_number
    age_in_table year_in_table date_in_table span_in_table rate_in_table rule_of rate_of most_span longest_span span_of part_of count_of query_path
    path_of part_year whole/ listed place_at path_in_range needed_in_range in_range log_force cell_force period_in kappa_in kappa_step in_grid
    least_product greatest_product outward floor_div ceil_div
force-passes = rw (is_true (in_limits (with_force (minus 700000000))) force-within)

next-fails : refusal_number (refusal_of (with_force (minus 699999999)) kind.Death (pos 65) (pos 2020) (pos 0)) ≡ 6
unfolding A B alpha beta set_of refusal_of first_failed table_tests refusal_number year_number
    age_in_table year_in_table date_in_table span_in_table rate_in_table rule_of rate_of most_span longest_span span_of part_of count_of query_path
    path_of part_year whole/ listed place_at path_in_range needed_in_range in_range log_force cell_force period_in kappa_in kappa_step in_grid
    least_product greatest_product outward floor_div ceil_div
next-fails = rw (is_true (in_limits (with_force (minus 699999999))) next-within)

-- ---- the weights

-- of all fitted ages at the ages 91 to 120
unfoldable weight_table : List (List ℤ)
weight_table = listed weight_row first_closed closed

table-ruled : totalled weight_table ≡ ruled
unfolding listed weight weight_row weight_table row_total beside totalled ruled
table-ruled = refl

-- ---- the table

pub starred-edges : StarredEdges
unfolding next_lower next_upper term_lower term_upper total evens odds sum_lower sum_upper constant_lower constant_upper exp_lower exp_upper
    exp_between whole_parts double ceil_div_ℕ weight A B alpha beta set_of kappa_in kappa_step in_grid period_in cell_force log_force least_product
    greatest_product outward floor_div ceil_div call_number printed_text step_of decimals_of half_up figure_of figure_text steps_text
    last_digits unsigned_text decimal bytes_of
starred-edges =
    record {
      exponential-0 = refl;
      exponential-1 = refl;
      exponential-21 = refl;
      weight-91 = refl;
      weight-120 = refl;
      weights-total = λ x h l. row-total weight_table table-ruled h l;
      kappa-next = refl;
      kappa-a-year-on = refl;
      theta-accepted = number-within (bytes_of "coh") kind.CohortSurvival read-coh (with_theta 2923976608) (pos 65) (pos 2020) (pos 0)
          (set-whole _ _ _ _) theta-within ∙ theta-passes;
      theta-one-more = number_past (bytes_of "coh") kind.CohortSurvival read-coh (with_theta 2923976609) (pos 65) (pos 2020) (pos 0)
          (set-whole _ _ _ _) theta-shown theta-small theta-past;
      force-highest = refl;
      force-accepted = number-within (bytes_of "q") kind.Death read-q (with_force (minus 700000000)) (pos 65) (pos 2020) (pos 0)
          (set-whole _ _ _ _) force-within ∙ force-passes;
      force-one-more = number-within (bytes_of "q") kind.Death read-q (with_force (minus 699999999)) (pos 65) (pos 2020) (pos 0)
          (set-whole _ _ _ _) next-within ∙ next-fails;
      ends-printed = refl;
      ends_open = refl;
    }
