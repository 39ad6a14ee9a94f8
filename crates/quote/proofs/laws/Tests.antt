-- What a query has that no test refuses: a set in its limits, an age, a year, a term and a rate of the table, and a path that
-- is answered.
use Rattle.std.specs.Prelude.{◌≡◌, refl, ℕ, suc, ◌+◌, ◌≤◌, ◌<◌, T, ℤ, pos, nat_abs}
use Rattle.std.proofs.Common.{arith}
use Rattle.number_whole.proofs.laws.Clash.{clash}
use Rattle.number_exponential.specs.Units.{billionths}
use Rattle.set_params.specs.declared.Params.{Params}
use Rattle.set_refusal.specs.declared.Refusal.TheVariants.{Accepted}
use Rattle.set_limits.specs.InLimits.{in_limits}
use Rattle.set_params.specs.Set.{year_number}
use Rattle.set_params.specs.Limits.{first_years, last_years}
use Rattle.model_closure.specs.Weights.{last_closed}
use Rattle.number_folds.specs.code.Code.{most_factors}
use Rattle.quote_paths.specs.Path.{place_at, path_in_range}
use Rattle.quote_paths.proofs.laws.Answers.{AnsweredPath, path-years, with-part-answered}
use Rattle.number_annuity.specs.Annuity.{most_rate}
use Rattle.quote_kinds.specs.declared.Kind.{Kind}
use Rattle.quote_kinds.specs.declared.Kind.TheVariants as kind
use Rattle.quote_kinds.specs.Kinds.{rule_of, rate_of, most_span, longest_span, count_of, span_of, part_of}
use Rattle.quote_kinds.specs.laws.PartLaws.{PartIn, part_in}
use Rattle.quote_calendar.specs.Calendar.{is_day}
use Rattle.quote_kinds.specs.code.Code.{RateWithin}
use Rattle.quote_table_tests.specs.TableTests.{age_in_table, year_in_table, date_in_table, span_in_table, rate_in_table, first_failed, table_tests}
use Rattle.quote_table_tests.proofs.laws.TableLaws.{passed, InTable, dated-day, within, NumberIn, number_in}
use Rattle.quote.specs.Quote.{query_path, refusal_of}

pub record Passed (p : Params) (k : Kind) (age year term : ℤ) : Type 0 where
  pub limits : T (in_limits p)
  pub table : InTable p.start (rule_of k) age year term
  pub range : T (path_in_range billionths p (query_path p.start k age year term))

pub all-passed : (p : Params) (k : Kind) (age year term : ℤ) → refusal_of p k age year term ≡ Accepted → Passed p k age year term
unfolding refusal_of first_failed table_tests
all-passed p k age year term e =
    let l = passed (in_limits p) (λ q. clash cc) e in
    let a = passed (age_in_table age) (λ q. clash cc) l.1 in
    let y = passed (year_in_table p.start (rule_of k) year) (λ q. clash cc) a.1 in
    let d = passed (date_in_table (rule_of k) term) (λ q. clash cc) y.1 in
    let s = passed (span_in_table (rule_of k) age year term) (λ q. clash cc) d.1 in
    let i = passed (rate_in_table (rule_of k)) (λ q. clash cc) s.1 in
    let r = passed (path_in_range _ p (query_path p.start k age year term)) (λ q. clash cc) i.1 in
    record {
      limits = l.0;
      table = record { age-in = a.0; year-in = y.0; date-in = d.0; span-in = s.0; rate-in = i.0 };
      range = r.0;
    }

-- ---- the numbers of a query in the table

-- a kind's last year, and that its path ends in the table's last year or before
pub record KindWithin (k : Kind) : Type 0 where
  pub years : ℕ
  pub years-are : (rule_of k).years ≡ pos years
  pub last : years ≤ last_years
  pub ends : (x n s : ℕ) → x ≤ last_closed → first_years ≤ n → n ≤ years → s ≤ longest_span (rule_of k) x
      → n + count_of (rule_of k).fold n s ≤ suc last_years
  -- and of a date the cell after it is the table's
  pub after : T (rule_of k).dated → (x n s : ℕ) → x ≤ last_closed → n ≤ years → s ≤ longest_span (rule_of k) x
      → (x + count_of (rule_of k).fold n s ≤ last_closed) × (n + count_of (rule_of k).fold n s ≤ last_years)

pub kind-within : (k : Kind) → KindWithin k
unfolding rule_of most_span longest_span count_of
kind-within kind.Death =
    record { years = _; years-are = refl; last = omega arith; ends = λ x n s h f t l. omega arith; after = λ d. absurd d }
kind-within kind.CohortSurvival =
    record { years = _; years-are = refl; last = omega arith; ends = λ x n s h f t l. omega arith; after = λ d. absurd d }
kind-within kind.PeriodSurvival =
    record { years = _; years-are = refl; last = omega arith; ends = λ x n s h f t l. omega arith; after = λ d. absurd d }
kind-within kind.CohortExpectancy =
    record { years = _; years-are = refl; last = omega arith; ends = λ x n s h f t l. omega arith; after = λ d. absurd d }
kind-within kind.PeriodExpectancy =
    record { years = _; years-are = refl; last = omega arith; ends = λ x n s h f t l. omega arith; after = λ d. absurd d }
kind-within (kind.CohortAnnuity rate) =
    record { years = _; years-are = refl; last = omega arith; ends = λ x n s h f t l. omega arith; after = λ d. absurd d }
kind-within (kind.PeriodAnnuity rate) =
    record { years = _; years-are = refl; last = omega arith; ends = λ x n s h f t l. omega arith; after = λ d. absurd d }
kind-within kind.Day =
    record {
      years = _;
      years-are = refl;
      last = omega arith;
      ends = λ x n s h f t l. omega arith;
      after = λ d x n s h t l. (omega arith, omega arith);
    }

-- the query's numbers as the table counts them
pub record Counted (start : ℤ) (k : Kind) (age year term : ℤ) : Type 0 where
  pub age-is : pos (nat_abs age) ≡ age
  pub age-in : nat_abs age ≤ last_closed
  pub year-in : NumberIn start year first_years (kind-within k).years
  pub date-in : T (rule_of k).dated → T (is_day term)
  pub span-is : pos (nat_abs (span_of (rule_of k) year term)) ≡ span_of (rule_of k) year term
  pub span-in : nat_abs (span_of (rule_of k) year term) ≤ longest_span (rule_of k) (nat_abs age)
  pub rate-in : RateWithin (rule_of k).fold

pub counted : (k : Kind) {start age year term : ℤ} → InTable start (rule_of k) age year term → Counted start k age year term
unfolding age_in_table year_in_table span_in_table rate_in_table
counted k {start} {age} {year} {term} t =
    let w = kind-within k in
    let a = within 0 last_closed age t.age-in in
    let s = within 0 (longest_span (rule_of k) (nat_abs age)) (span_of (rule_of k) year term) t.span-in in
    let r = within 0 most_rate (rate_of (rule_of k).fold) t.rate-in in
    record {
      age-is = a.0;
      age-in = a.2;
      year-in = number_in start year first_years w.years (rw w.years-are at t.year-in);
      date-in = dated-day (rule_of k) term t.date-in;
      span-is = s.0;
      span-in = s.2;
      rate-in = record { is = r.0; most = r.2 };
    }

-- ---- its path

module _ (k : Kind) {start age year term : ℤ} (c : Counted start k age year term) where
  abbrev x : ℕ
  x = nat_abs age

  abbrev n : ℕ
  n = year_number start year

  abbrev count : ℕ
  count = count_of (rule_of k).fold n (nat_abs (span_of (rule_of k) year term))

  pub path-first : n ≤ last_years
  path-first = omega (arith, c.year-in.to, (kind-within k).last)

  -- its last year is the table's last or before
  path-ends : n + count ≤ suc last_years
  path-ends =
      (kind-within k).ends x n (nat_abs (span_of (rule_of k) year term)) c.age-in c.year-in.from c.year-in.to
      c.span-in

  pub path_room : count ≤ most_factors
  path_room = omega (arith, path-ends, c.year-in.from)

  pub path-in : (s : ℕ) → s < count → (place_at (rule_of k).cohort x n s).year ≤ last_years
  path-in = path-years (rule_of k).cohort x n count path-first (λ e. path-ends)

  -- the part of the year after it
  pub part-within : PartIn (rule_of k).dated (part_of (rule_of k) term)
  part-within = part_in (rule_of k) term c.date-in

  pub part-after : ((part_of (rule_of k) term).num ≡ 0 → ⊥) → (x + count ≤ last_closed) × (n + count ≤ last_years)
  part-after m =
      (kind-within k).after (part-within.some m) x n (nat_abs (span_of (rule_of k) year term)) c.age-in
      c.year-in.to c.span-in

pub query-answered : {p : Params} {k : Kind} {age year term : ℤ} → Passed p k age year term → AnsweredPath p (query_path p.start k age year term)
unfolding query_path
query-answered {p} {k} {age} {year} {term} h =
    let c = counted k h.table in
    with-part-answered (rule_of k).cohort (nat_abs age) (year_number p.start year) _ (part_of (rule_of k) term) h.limits
    (path-in k c) (λ m. let a = part-after k c m in (a.0, a.1, (part-within k c).small)) h.range
