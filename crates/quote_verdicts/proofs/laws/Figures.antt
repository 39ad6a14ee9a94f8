-- The figures of a year: where the year is that of `q` and its cells are in range, `q` is quoted at each age, and its figure is that
-- by the p of its cell, where this is printed.
use Rattle.std.specs.Prelude.{◌≡◌, refl, Bool, false, cond, List, ℕ, ◌≤◌, ◌<◌, T, ℤ, pos, take, get_or}
use Rattle.std.proofs.Math.Path.{ap, sym}
use Rattle.std.proofs.Common.{◌∙◌, append-nil, zero-add, arith, le-leb, get_or-take}
use Rattle.std.proofs.Math.Bool.{true}
use Rattle.std.specs.Float.Ieee.Bits.{is_true}
use Rattle.std.proofs.Math.Facts.{yes_and}
use Rattle.number_whole.proofs.laws.Table.{listed-map, listed_at}
use Rattle.number_fraction.specs.Ratio.{whole/}
use Rattle.number_exponential.specs.declared.Ends.{Ends}
use Rattle.number_exponential.specs.Units.{billionths, grid_of}
use Rattle.number_exponential.specs.declared.GridUnit.{GridUnit}
use Rattle.number_exponential.specs.declared.GridUnit.TheVariants.{Coarse}
use Rattle.set_params.specs.declared.Params.{Params}
use Rattle.set_refusal.specs.declared.Refusal.TheVariants.{Accepted}
use Rattle.set_limits.specs.InLimits.{in_limits}
use Rattle.set_params.specs.Set.{year_number}
use Rattle.set_refusal.specs.Refusals.{refusal_number}
use Rattle.model_closure.specs.Weights.{last_closed}
use Rattle.number_exact.specs.Figure.{probability_step, figure_of, is_open}
use Rattle.model_mortality.specs.Cell as cell
use Rattle.model_mortality.proofs.laws.Death.{death}
use Rattle.quote_paths.specs.Path.{Place, place_at, path_of, part_year, factors, path_in_range}
use Rattle.quote_paths.specs.Values.{grid_value}
use Rattle.quote_paths.specs.declared.Fold.TheVariants as fold
use Rattle.quote_paths.proofs.laws.Answers.{range-out}
use Rattle.quote_paths.proofs.laws.Width.{one_place, one_cell}
use Rattle.quote_kinds.specs.declared.Kind.{Kind}
use Rattle.quote_kinds.specs.declared.Kind.TheVariants.{Death}
use Rattle.quote_kinds.specs.Kinds.{rule_of, count_of, step_of, most_span, longest_span, span_of, part_of, rate_of}
use Rattle.quote_table_tests.specs.TableTests.{age_in_table, year_in_table, date_in_table, span_in_table, rate_in_table, first_failed, table_tests}
use Rattle.quote_table_tests.proofs.laws.TableLaws.{InTable}
use Rattle.quote_along.specs.QuoteBy.{quote_on, quote_by}
use Rattle.quote.specs.Quote.{query_path, query_ends, refusal_of, quote_of, answer_by, answer_of}
use Rattle.quote.specs.Demand.{shown_of, figure_shown}
use Rattle.quote.proofs.laws.Tests.{Passed}
use Rattle.quote_factors.specs.code.Code.{empty}
use Rattle.quote_verdicts.specs.Verdict.{column_ages, figure_here, year_cells}
use Rattle.quote_verdicts.specs.code.Code.{figure_by, figure_in, figure_kept}

-- a set in its limits, a year of `q`, and cells in range
pub record Worked (p : Params) (year : ℤ) : Type 0 where
  pub limits : T (in_limits p)
  pub year-in : T (year_in_table p.start (rule_of Death) year)
  pub range : T (path_in_range billionths p (year_cells p.start year))

-- ---- `q` is quoted at each age

-- a query that passes each test is accepted
pub all-accepted : {p : Params} {k : Kind} {age year term : ℤ} → Passed p k age year term → refusal_of p k age year term ≡ Accepted
unfolding refusal_of first_failed table_tests
all-accepted {p} {k} {age} {year} {term} h =
    let t = h.table in
    rw (
      is_true (in_limits p) h.limits,
      is_true (age_in_table age) t.age-in,
      is_true (year_in_table p.start (rule_of k) year) t.year-in,
      is_true (date_in_table (rule_of k) term) t.date-in,
      is_true (span_in_table (rule_of k) age year term) t.span-in,
      is_true (rate_in_table (rule_of k)) t.rate-in,
      is_true (path_in_range billionths p (query_path p.start k age year term)) h.range,
    )

-- the year's cell of age x
place_here : (n x : ℕ) → x < column_ages → place_at false 0 n x ≡ record { age = x; year = n; part = cell.whole_year }
unfolding place_at
place_here n x l = ap (λ (y : ℕ). record { age = y; year = n; part = cell.whole_year }) (omega arith)

-- what it needs is in range
cell-in-range : (p : Params) (n x : ℕ) → x < column_ages → T (path_in_range billionths p (path_of false 0 n column_ages))
    → T (cell.needed_in_range billionths p x n)
cell-in-range p n x l t = go (cell.needed_in_range billionths p x n) refl
  where
    go : (b : Bool) → cell.needed_in_range billionths p x n ≡ b → T b
    go true e = tt
    go false e = rw (range-out billionths p false 0 n x column_ages l (rw (place_here n x l) e)) at t

q-in-range : (p : Params) (year : ℤ) (x : ℕ) → x < column_ages → T (path_in_range billionths p (year_cells p.start year))
    → T (path_in_range billionths p (query_path p.start Death (pos x) year (pos 0)))
unfolding year_cells query_path rule_of count_of part_of whole/ part_year path_in_range
q-in-range p year x l t =
    let n = year_number p.start year in
    rw (one_place true x n (omega arith)) (yes_and (cell.needed_in_range billionths p x n) true (cell-in-range p n x l t) tt)

q-in-table : (start year : ℤ) (x : ℕ) → x < column_ages → T (year_in_table start (rule_of Death) year)
    → InTable start (rule_of Death) (pos x) year (pos 0)
unfolding age_in_table date_in_table span_in_table rate_in_table rule_of most_span longest_span span_of rate_of
q-in-table start year x l y =
    let a : x ≤ last_closed = omega arith in
    record { age-in = rw (le-leb 0 x (omega arith), le-leb x last_closed a) tt; year-in = y; date-in = tt; span-in = tt; rate-in = tt }

pub q-accepted : {p : Params} {year : ℤ} (x : ℕ) → x < column_ages → Worked p year
    → refusal_of p Death (pos x) year (pos 0) ≡ Accepted
q-accepted {p} {year} x l h =
    all-accepted
    (record { limits = h.limits; table = q-in-table p.start year x l h.year-in; range = q-in-range p year x l h.range })

-- ---- its figure

-- a quote keeps a printed coarse figure
quote-keeps : (s : ℕ) (e : GridUnit → Ends) → is_open (quote_on s Coarse (e Coarse)).figure ≡ false
    → (quote_by s e).figure ≡ (quote_on s Coarse (e Coarse)).figure
unfolding quote_by
quote-keeps s e o = rw o

module _ {p : Params} {year : ℤ} (x : ℕ) (l : x < column_ages) (h : Worked p year) where
  pub figure-quoted : figure_here p year x ≡ shown_of (quote_of p Death (pos x) year (pos 0)).figure
  unfolding figure_here answer_of answer_by refusal_number figure_shown
  figure-quoted = rw (q-accepted x l h)

  -- by p's coarse ends
  figure-by : (quote_on (step_of fold.Death) Coarse (query_ends p Death (pos x) year (pos 0) Coarse)).figure
      ≡ figure_by (cell.survival billionths p x (year_number p.start year) cell.whole_year)
  unfolding query_ends query_path rule_of count_of part_of whole/ part_year step_of grid_of figure_by death
  figure-by =
      ap (figure_of probability_step)
      (ap (grid_value fold.Death billionths p) (append-nil (path_of true x (year_number p.start year) 1))
      ∙ one_cell billionths billionths.positive p true x (year_number p.start year) (omega arith))

  figure-here : let f = figure_by (cell.survival billionths p x (year_number p.start year) cell.whole_year) in
      is_open f ≡ false → shown_of f ≡ figure_here p year x
  unfolding quote_of rule_of
  figure-here o =
      sym (figure-quoted ∙ ap shown_of (quote-keeps (step_of fold.Death) _ (ap is_open figure-by ∙ o) ∙ figure-by))

-- ---- by the factors of the year's cells

-- the factor of age x
factor-here : (p : Params) (n x : ℕ) (es : List Ends) → x < column_ages
    → take column_ages es ≡ factors billionths p (path_of false 0 n column_ages)
    → get_or es x empty ≡ cell.survival billionths p x n cell.whole_year
unfolding factors path_of
factor-here p n x es l e =
    let f : Place → Ends = λ c. cell.survival billionths p c.age c.year c.part in
    sym (get_or-take column_ages es x empty l)
    ∙ ap (λ (a : List Ends). get_or a x empty) (e ∙ listed-map f (place_at false 0 n) 0 column_ages)
    ∙ listed_at (λ (s : ℕ). f (place_at false 0 n s)) empty 0 column_ages x l
    ∙ ap f (ap (place_at false 0 n) (zero-add x) ∙ place_here n x l)

pub figures-kept : {p : Params} {year : ℤ} (es : List Ends) → Worked p year
    → take column_ages es ≡ factors billionths p (year_cells p.start year)
    → (x : ℕ) → x < column_ages → figure_kept p year es x ≡ figure_here p year x
unfolding figure_kept year_cells
figures-kept {p} {year} es h e x l = go (is_open (figure_in es x)) refl
  where
    f : figure_in es x ≡ figure_by (cell.survival billionths p x (year_number p.start year) cell.whole_year)
    f = ap figure_by (factor-here p (year_number p.start year) x es l e)

    go : (b : Bool) → is_open (figure_in es x) ≡ b → cond b (figure_here p year x) (shown_of (figure_in es x)) ≡ figure_here p year x
    go true o = refl
    go false o = ap shown_of f ∙ figure-here x l h (ap is_open (sym f) ∙ o)
