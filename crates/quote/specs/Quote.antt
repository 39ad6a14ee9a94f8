-- A quote of any set, kind, age, year and term (paper 01, "Figures on offer"): its refusal, and else its ends and figure. A kind
-- that takes a rate has it. The term is a span, or of the kind `day` a date.
use Rattle.std.specs.Prelude.{cond, List, [], ◌∷◌, ◌++◌, ℕ, ◌+◌, eqb, ℤ, nat_abs, Ok, Err}
use Rattle.number_exponential.specs.declared.Ends.{Ends}
use Rattle.number_exponential.specs.Units.{billionths, grid_of}
use Rattle.number_exponential.specs.declared.GridUnit.{GridUnit}
use Rattle.set_params.specs.declared.Params.{Params}
use Rattle.set_refusal.specs.declared.Refusal.{Refusal}
use Rattle.set_refusal.specs.declared.Refusal.TheVariants.{OutOfLimits, LogForceOutOfRange}
use Rattle.set_refusal.specs.Refusals.{refusal_number}
use Rattle.set_limits.specs.InLimits.{in_limits}
use Rattle.set_params.specs.Set.{year_number}
use Rattle.number_exact.specs.Value.{Exact}
use Rattle.quote_paths.specs.Path.{Place, path_of, part_year, path_in_range}
use Rattle.quote_paths.specs.Values.{grid_value, exact_value}
use Rattle.quote_kinds.specs.declared.Kind.{Kind}
use Rattle.quote_kinds.specs.Kinds.{rule_of, count_of, step_of, span_of, part_of}
use Rattle.quote_table_tests.specs.TableTests.{first_failed, table_tests}
use Rattle.quote_along.specs.declared.Quote.{Quote}
use Rattle.quote_along.specs.QuoteBy.{quote_by, Answer}

-- ---- the path, the ends and the exact value, of an age, a year and a term in the table

-- years are counted from the start year; to a day "the last part year" comes after the whole ones
unfoldable pub query_path : ℤ → Kind → ℤ → ℤ → ℤ → List Place
query_path start kind age year term =
    let r = rule_of kind in
    let n = year_number start year in
    let k = count_of r.fold n (nat_abs (span_of r year term)) in
    path_of r.cohort (nat_abs age) n k ++ part_year (nat_abs age + k) (n + k) (part_of r term)

unfoldable pub query_ends : Params → Kind → ℤ → ℤ → ℤ → GridUnit → Ends
query_ends p kind age year term u = grid_value (rule_of kind).fold (grid_of u) p (query_path p.start kind age year term)

unfoldable pub exact_query : Params → Kind → ℤ → ℤ → ℤ → Exact
exact_query p kind age year term = exact_value (rule_of kind).fold p (query_path p.start kind age year term)

-- ---- the answer

-- the tests of the table, 3 to 5, 8 and 10, before them 2 and after them 6
unfoldable pub refusal_of : Params → Kind → ℤ → ℤ → ℤ → Refusal
refusal_of p kind age year term =
    first_failed
    (record { passed = in_limits p; refusal = OutOfLimits } ∷ table_tests p.start (rule_of kind) age year term
    ++ (record { passed = path_in_range billionths p (query_path p.start kind age year term); refusal = LogForceOutOfRange } ∷ []))

unfoldable pub quote_of : Params → Kind → ℤ → ℤ → ℤ → Quote
quote_of p kind age year term = quote_by (step_of (rule_of kind).fold) (query_ends p kind age year term)

-- a quote where nothing is refused
unfoldable pub answer_by : Refusal → Quote → Answer
answer_by r q = cond (eqb (refusal_number r) 0) (Ok q) (Err r)

unfoldable pub answer_of : Params → Kind → ℤ → ℤ → ℤ → Answer
answer_of p kind age year term = answer_by (refusal_of p kind age year term) (quote_of p kind age year term)
