-- Every answer meets demand 3, and the claim over two quotes by itself.
use Rattle.std.specs.Prelude.{◌≡◌, refl, ◌↔◌, Bool, false, ◌++◌, ℕ, ◌+◌, ◌*◌, ◌≤◌, ◌<◌, ℤ, nat_abs}
use Rattle.std.proofs.Math.Bool.{true}
use Rattle.std.proofs.Common.{add-zero, arith, lit<}
use Rattle.number_fraction.specs.Ratio.{Ratio, whole/}
use Rattle.number_exponential.specs.declared.GridUnit.{GridUnit}
use Rattle.number_exponential.specs.Units.{width_times, billionths}
use Rattle.number_exponential.specs.Grid.{Grid}
use Rattle.set_params.specs.declared.Params.{Params}
use Rattle.set_refusal.specs.declared.Refusal.TheVariants.{Accepted}
use Rattle.set_params.specs.Set.{year_number}
use Rattle.model_closure.specs.Weights.{last_closed}
use Rattle.number_exact.specs.Value.{OneStep}
use Rattle.number_exact.proofs.laws.Rounding.{same_step}
use Rattle.number_folds.specs.code.Code.{most_factors}
use Rattle.quote_paths.specs.Values as path
use Rattle.quote_paths.specs.Path.{path_of, part_year}
use Rattle.quote_paths.proofs.laws.Answers.{AnsweredPath, path-length, no_part}
use Rattle.quote_paths.proofs.laws.Holds.{value-holds}
use Rattle.quote_paths.proofs.laws.Narrowing.{value-narrows}
use Rattle.quote_paths.proofs.laws.OrdersAgree.{value-agrees}
use Rattle.quote_paths.proofs.laws.Facts.{age_limit, Facts, unit-facts}
use Rattle.quote_paths.proofs.laws.Width.{death-limit, survival-limit, day-limit, expectancy-limit, annuity-limit}
use Rattle.quote_kinds.specs.declared.Kind.{Kind}
use Rattle.quote_kinds.specs.declared.Kind.TheVariants as kind
use Rattle.quote_kinds.specs.declared.Rule.{Rule}
use Rattle.quote_paths.specs.declared.Fold.{Fold}
use Rattle.quote_paths.specs.declared.Fold.TheVariants.{Death, Survival, Expectancy, Annuity}
use Rattle.quote_kinds.specs.Kinds.{OneKind, rule_of, most_span, longest_span, years_on, count_of, step_of, cell_width, fold_width, width_of, span_of, part_of}
use Rattle.quote_kinds.specs.laws.KindLaws.{one-step-of}
use Rattle.quote.specs.Quote.{query_path, query_ends, exact_query, refusal_of, quote_of, answer_of}
use Rattle.quote.specs.Demand.{printed, figure_shown, step, query_width, RoundsAt, Promised, Demand3}
use Rattle.quote.proofs.laws.Promises.{Held, promised, UnitsAgree, units-agree}
use Rattle.quote.proofs.laws.Tests.{Passed, all-passed, counted, path_room, query-answered}

-- ---- an accepted query

step-positive : (f : Fold) → 0 < step_of f
unfolding step_of
step-positive Death = lit< tt
step-positive Survival = lit< tt
step-positive Expectancy = lit< tt
step-positive (Annuity rate) = lit< tt

module _ {g : Grid} {t : ℕ} (h : Facts g t) {p : Params} where
  -- its ends lie no further apart than its fold allows
  fold-width : (f : Fold) (cohort : Bool) (x n span : ℕ) → x ≤ last_closed → span ≤ most_span f x
      → count_of f n span ≤ most_factors → AnsweredPath p (path_of cohort x n (count_of f n span))
      → let e = path.grid_value f g p (path_of cohort x n (count_of f n span)) in e.upper ≤ e.lower + t * fold_width f x
  unfolding count_of most_span fold_width cell_width age_limit
  fold-width Death cohort x n span l m r a = death-limit h cohort x n l a
  fold-width Survival cohort x n span l m r a = survival-limit h cohort x n span (omega arith) a
  fold-width Expectancy cohort x n span l m r a = expectancy-limit h (rw (path-length cohort x n (years_on n)) r) a
  fold-width (Annuity rate) cohort x n span l m r a = annuity-limit h (rw (path-length cohort x n (years_on n)) r) a rate

  -- to a day, those of a survival and the cell's
  day-width : (x n span : ℕ) (part : Ratio) → x + span ≤ last_closed
      → AnsweredPath p (path_of true x n span ++ part_year (x + span) (n + span) part)
      → let e = path.grid_value Survival g p (path_of true x n span ++ part_year (x + span) (n + span) part) in
      e.upper ≤ e.lower + t * (fold_width Survival x + cell_width (x + span))
  unfolding fold_width
  day-width x n span part l a = omega (arith, day-limit h true x n span (n + span) part l a)

-- which of the two a kind is
data Dated : Kind → Type 0 where
  day : Dated kind.Day
  undated : {k : Kind} → (rule_of k).dated ≡ false → Dated k

dated : (k : Kind) → Dated k
unfolding rule_of
dated kind.Death = undated refl
dated kind.CohortSurvival = undated refl
dated kind.PeriodSurvival = undated refl
dated kind.CohortExpectancy = undated refl
dated kind.PeriodExpectancy = undated refl
dated (kind.CohortAnnuity rate) = undated refl
dated (kind.PeriodAnnuity rate) = undated refl
dated kind.Day = day

-- what is undated has no part of a year
module _ (r : Rule) (e : r.dated ≡ false) where
  undated-part : (term : ℤ) → (part_of r term).num ≡ 0
  unfolding part_of whole/
  undated-part term = rw e

  undated-span : (x : ℕ) → longest_span r x ≡ most_span r.fold x
  unfolding longest_span
  undated-span x = rw e

  undated-width : (x s : ℕ) → width_of r x s ≡ fold_width r.fold x
  unfolding width_of
  undated-width x s = rw e (add-zero (fold_width r.fold x))

to-day : {p : Params} {age year term : ℤ} (u : GridUnit) → Passed p kind.Day age year term → (query_ends p kind.Day age year term u).upper
    ≤ (query_ends p kind.Day age year term u).lower
    + width_times u * width_of (rule_of kind.Day) (nat_abs age) (nat_abs (span_of (rule_of kind.Day) year term))
unfolding query_ends query_path rule_of count_of width_of longest_span
to-day {p} {age} {year} {term} u h =
    let c = counted kind.Day h.table in
    let s = nat_abs (span_of (rule_of kind.Day) year term) in
    (day-width (unit-facts u) (nat_abs age) (year_number p.start year) s (part_of (rule_of kind.Day) term)
    (omega (arith, c.age-in, c.span-in)) (query-answered h))

kind-width : {p : Params} {k : Kind} {age year term : ℤ} (u : GridUnit) → Dated k → Passed p k age year term → (query_ends p k age year term u).upper
    ≤ (query_ends p k age year term u).lower + width_times u * width_of (rule_of k) (nat_abs age) (nat_abs (span_of (rule_of k) year term))
unfolding query_ends query_path
kind-width {p} {k} {age} {year} {term} u (undated e) h =
    let r = rule_of k in
    let c = counted k h.table in
    let n = year_number p.start year in
    let s = nat_abs (span_of r year term) in
    let i = count_of r.fold n s in
    let z = no_part (nat_abs age + i) (n + i) (part_of r term) (path_of r.cohort (nat_abs age) n i) (undated-part r e term) in
    rw (z, undated-width r e (nat_abs age) s)
    (fold-width (unit-facts u) r.fold r.cohort (nat_abs age) n s c.age-in
    (rw (undated-span r e (nat_abs age)) at c.span-in) (path_room k c) (rw z at (query-answered h)))
kind-width u day h = to-day u h

module _ {p : Params} {k : Kind} {age year term : ℤ} (h : Passed p k age year term) where
  query-width : (u : GridUnit) → (query_ends p k age year term u).upper
      ≤ (query_ends p k age year term u).lower + width_times u * width_of (rule_of k) (nat_abs age) (nat_abs (span_of (rule_of k) year term))
  query-width u = kind-width u (dated k) h

  query-held : Held (query_ends p k age year term) (exact_query p k age year term) (step k) (query_width k age year term)
  unfolding query_ends exact_query
  query-held =
      let a = query-answered h in
      let f = (rule_of k).fold in
      record {
        positive = step-positive f;
        holds = λ u j l. value-holds (unit-facts u) a j l f;
        width = query-width;
        agrees = value-agrees a f;
        narrows = value-narrows a f;
      }

-- ---- the theorems

-- what is promised of every answer by itself
query-promised : (p : Params) (k : Kind) (age year term : ℤ)
    → Promised (refusal_of p k age year term) (query_ends p k age year term) (exact_query p k age year term) (step k)
    (query_width k age year term) (answer_of p k age year term)
unfolding answer_of quote_of
query-promised p k age year term =
    promised (refusal_of p k age year term) _ _ _ _ (λ e. query-held (all-passed p k age year term e))

-- fine ends and coarse ends that round alike give one step, at any step
pub query-units-agree : (p : Params) (k : Kind) (age year term : ℤ) → refusal_of p k age year term ≡ Accepted
    → (t : ℕ) → 0 < t → UnitsAgree t (query_ends p k age year term)
query-units-agree p k age year term e = units-agree (query-held (all-passed p k age year term e))

-- a printed figure of any query is its exact value rounded half up
pub figure-rounds : (p : Params) (k : Kind) (age year term : ℤ) {n : ℕ} → figure_shown (answer_of p k age year term) ≡ printed n
    → RoundsAt p k age year term n
figure-rounds p k age year term {n} e = (query-promised p k age year term).rounds n e

-- two printed figures of one kind, whichever sets, ages, years, terms and rates they come from, are equal exactly when their
-- exact values round to one same step
pub same-figure : (k k' : Kind) → OneKind k k' → (p p' : Params) (age year term age' year' term' : ℤ) {n n' : ℕ}
    → figure_shown (answer_of p k age year term) ≡ printed n → figure_shown (answer_of p' k' age' year' term') ≡ printed n'
    → (n ≡ n') ↔ OneStep billionths (step k) (exact_query p k age year term) (exact_query p' k' age' year' term')
same-figure k k' one p p' age year term age' year' term' e e' =
    same_step (figure-rounds p k age year term e) (rw (one-step-of k k' one) (figure-rounds p' k' age' year' term' e'))

-- every answer meets demand 3
pub demand-met : (p : Params) (k : Kind) (age year term : ℤ) → Demand3 p k age year term (answer_of p k age year term)
demand-met p k age year term =
    record {
      alone = query-promised p k age year term;
      one-step = λ n e p' kind' age' year' term' n' one e'. same-figure k kind' one p p' age year term age' year' term' e e';
    }
