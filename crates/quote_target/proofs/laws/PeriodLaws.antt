-- The years that are looked at: each is a quote year of the table, so that its period expectancy is answered, by its coarse ends, or a
-- cell of it is out of range.
use Rattle.std.specs.Prelude.{◌≡◌, refl, Bool, true, false, cond, ℕ, ◌≤◌, T, ℤ, pos, ◌+ℤ◌, ◌≤ℤ◌}
use Rattle.std.proofs.Common.{ap, ◌∙◌}
use Rattle.std.specs.Int.Signed.{le_z}
use Rattle.std.proofs.Math.Facts.{yes_and}
use Rattle.number_whole.specs.code.Sizes.{Under}
use Rattle.number_whole.proofs.laws.Bound.{under-between}
use Rattle.number_whole.proofs.laws.Split.{split, split-add, split-neg}
use Rattle.number_exponential.specs.Units.{billionths}
use Rattle.number_exponential.specs.declared.GridUnit.TheVariants.{Coarse}
use Rattle.set_params.specs.declared.Params.{Params}
use Rattle.set_params.specs.Limits.{first_years, quote_years, last_start}
use Rattle.set_params.specs.code.Within.{StartWithin}
use Rattle.set_refusal.specs.declared.Refusal.{Refusal}
use Rattle.set_refusal.specs.declared.Refusal.TheVariants.{Accepted, LogForceOutOfRange}
use Rattle.set_refusal.specs.Refusals.{refusal_number}
use Rattle.set_limits.specs.InLimits.{in_limits}
use Rattle.quote_kinds.specs.declared.Kind.TheVariants.{PeriodExpectancy}
use Rattle.quote_kinds.specs.Kinds.{rule_of, rate_of, most_span, longest_span, span_of}
use Rattle.quote_table_tests.specs.TableTests.{age_in_table, year_in_table, date_in_table, span_in_table, rate_in_table}
use Rattle.quote_table_tests.proofs.laws.TableLaws.{InTable}
use Rattle.quote_along.specs.declared.Quote.{Quote}
use Rattle.quote_along.specs.QuoteBy.{quote_on}
use Rattle.quote_along.specs.code.Code.{in_range_or, quote_for}
use Rattle.quote_paths.specs.Path.{path_in_range}
use Rattle.quote.specs.Quote.{query_path, answer_by}
use Rattle.quote.specs.Demand.{step}
use Rattle.quote.specs.code.Code.{answer_for}
use Rattle.quote.proofs.Steps.{cells-decide}
use Rattle.quote_target.specs.Target.{period_ends, period_in_range}

-- how great a start year is
pub start_under : {start : ℤ} → StartWithin start → Under start last_start
start_under {start} w = under-between (omega (split, split-neg (pos last_start), w.first)) (omega (split, w.last))

-- a quote year of the table
year-within : (start : ℤ) (n : ℕ) → first_years ≤ n → n ≤ quote_years → T (year_in_table start (rule_of PeriodExpectancy) (start +ℤ pos n))
unfolding year_in_table rule_of
year-within start n l h =
    let a : (start +ℤ pos first_years) ≤ℤ (start +ℤ pos n) = omega (split, split-add start (pos first_years), split-add start (pos n)) in
    let b : (start +ℤ pos n) ≤ℤ (start +ℤ pos quote_years) = omega (split, split-add start (pos quote_years), split-add start (pos n)) in
    yes_and (le_z (start +ℤ pos first_years) (start +ℤ pos n)) (le_z (start +ℤ pos n) (start +ℤ pos quote_years)) a.le b.le

pub in_table : (start age : ℤ) (n : ℕ) → T (age_in_table age) → first_years ≤ n → n ≤ quote_years
    → InTable start (rule_of PeriodExpectancy) age (start +ℤ pos n) (pos 0)
unfolding date_in_table span_in_table rate_in_table rule_of longest_span most_span span_of rate_of
in_table start age n a l h =
    record { age-in = a; year-in = year-within start n l h; date-in = tt; span-in = tt; rate-in = tt }

decided : (b : Bool) (q : Quote) → answer_by (cond b Accepted LogForceOutOfRange) q ≡ in_range_or b q
unfolding in_range_or answer_by refusal_number
decided true q = refl
decided false q = refl

-- the quote of its coarse ends, and its answer by them
abbrev pub period_quote : Params → ℤ → ℕ → Quote
period_quote p age n = quote_on (step PeriodExpectancy) Coarse (period_ends p age n)

pub period-answer : (p : Params) (age : ℤ) (n : ℕ) → T (in_limits p) → T (age_in_table age) → first_years ≤ n → n ≤ quote_years
    → answer_for false p PeriodExpectancy age (p.start +ℤ pos n) (pos 0) ≡ in_range_or (period_in_range p age n) (period_quote p age n)
unfolding answer_for quote_for period_ends period_in_range
period-answer p age n t a l h =
    ap (λ (r : Refusal). answer_by r (period_quote p age n))
    (cells-decide p PeriodExpectancy age (p.start +ℤ pos n) (pos 0) t (in_table p.start age n a l h))
    ∙ decided (path_in_range billionths p (query_path p.start PeriodExpectancy age (p.start +ℤ pos n) (pos 0))) (period_quote p age n)
