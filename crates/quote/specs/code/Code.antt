-- What inner contracts say beside the definitions: the whole years of a query's path, as the code's struct has them, and the answer by
-- coarse ends alone.
use Rattle.std.specs.Prelude.{Bool, ℤ, nat_abs}
use Rattle.set_params.specs.declared.Params.{Params}
use Rattle.set_params.specs.Set.{year_number}
use Rattle.quote_paths.specs.declared.Path.{Path}
use Rattle.quote_kinds.specs.declared.Kind.{Kind}
use Rattle.quote_kinds.specs.Kinds.{rule_of, count_of, span_of, step_of}
use Rattle.quote_along.specs.QuoteBy.{Answer}
use Rattle.quote_along.specs.code.Code.{quote_for}
use Rattle.quote.specs.Quote.{query_ends, refusal_of, answer_by}

abbrev pub path_to : ℤ → Kind → ℤ → ℤ → ℤ → Path
path_to start kind age year term =
    let r = rule_of kind in
    let n = year_number start year in
    record { cohort = r.cohort; age = nat_abs age; year = n; count = count_of r.fold n (nat_abs (span_of r year term)) }

-- the answer of a query, with an open figure worked again or by its coarse ends alone
unfoldable pub answer_for : Bool → Params → Kind → ℤ → ℤ → ℤ → Answer
answer_for again p kind age year term =
    answer_by (refusal_of p kind age year term) (quote_for again (step_of (rule_of kind).fold) (query_ends p kind age year term))
