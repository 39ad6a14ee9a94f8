-- What the proofs of quotes share: the refusal by its tests, and the answer by that along the query's path.
use Rattle.std.specs.Prelude.{Ok, Err}
use mathlib.Core.Path.{◌≡◌, refl, ap, sym, ◌∙◌}
use mathlib.Core.Bool.{Bool, true, false, cond}
use mathlib.Core.List.{List, [], ◌∷◌, ◌++◌}
use Prim.Native.Nat.{◌≤◌}
use native.Mathlib.Omega.{arith}
use borrow.Author.Tests.{ne_eqb}
use lib.Dec.{T}
use lib.IntN.{ℤ, nat_abs}
use lib.Ieee.Bits.{is_true}
use Rattle.number_whole.proofs.laws.Clash.{clash}
use Rattle.number_whole.specs.code.Sizes.{Under}
use Rattle.number_whole.proofs.laws.Bound.{under-pos}
use Rattle.number_fraction.specs.Ratio.{whole/}
use Rattle.number_exponential.specs.Units.{billionths}
use Rattle.set_params.specs.declared.Params.{Params}
use Rattle.set_refusal.specs.declared.Refusal.{Refusal}
use Rattle.set_refusal.specs.declared.Refusal.TheVariants.{Accepted, OutOfLimits, LogForceOutOfRange}
use Rattle.set_limits.specs.InLimits.{in_limits}
use Rattle.set_params.specs.Set.{year_number}
use Rattle.set_params.specs.Limits.{last_years}
use Rattle.set_refusal.specs.Refusals.{refusal_number}
use Rattle.quote_paths.specs.Path.{path_in_range}
use Rattle.quote_paths.specs.declared.Part.{Part}
use Rattle.quote_paths.specs.code.Code.{IsPart}
use Rattle.quote_factors.specs.code.Code.{PartWithin}
use Rattle.quote_kinds.specs.declared.Kind.{Kind}
use Rattle.quote_kinds.specs.Kinds.{rule_of, count_of, step_of, span_of, part_of}
use Rattle.quote_table_tests.specs.TableTests.{age_in_table, year_in_table, date_in_table, span_in_table, rate_in_table, Test, first_failed, table_tests}
use Rattle.quote_table_tests.proofs.laws.TableLaws.{InTable}
use Rattle.quote_along.specs.declared.Quote.{Quote}
use Rattle.quote_along.specs.QuoteBy.{Answer}
use Rattle.quote_along.specs.code.Code.{in_range_or, quote_for, path_quote}
use Rattle.quote.specs.Quote.{query_path, query_ends, quote_of, refusal_of, answer_by, answer_of}
use Rattle.quote.specs.code.Code.{answer_for}
use Rattle.quote.specs.Demand.{Demand3}
use Rattle.quote.proofs.laws.Theorem.{demand-met}
use Rattle.quote.proofs.laws.Tests.{kind-within, Counted, part-within, part-after}

-- ---- the refusal

-- one that has a number is an answer, and the tests before it decide
pub refused : (r : Refusal) (q : Quote) → (refusal_number r ≡ 0 → ⊥) → Err r ≡ answer_by r q
unfolding answer_by
refused r q n = rw (ne_eqb (refusal_number r) 0 n)

-- tests after others count where those pass
append-by : (b : Bool) (r : Refusal) {s t : Refusal} → (cond b s r ≡ Accepted → ⊥) → ((s ≡ Accepted → ⊥) → t ≡ s)
    → cond b t r ≡ cond b s r
append-by true r n h = h n
append-by false r n h = refl

pub failed-append : (ts us : List Test) → (first_failed ts ≡ Accepted → ⊥) → first_failed (ts ++ us) ≡ first_failed ts
unfolding first_failed
failed-append [] us n = absurd (n refl)
failed-append (t ∷ ts) us n = append-by t.passed t.refusal n (failed-append ts us)

pub first-passed : (t : Test) (ts : List Test) → T t.passed → first_failed (t ∷ ts) ≡ first_failed ts
unfolding first_failed
first-passed t ts h = rw (is_true t.passed h)

module _ (p : Params) (k : Kind) (age year term : ℤ) where
  -- a set out of its limits
  out-of-limits : in_limits p ≡ false → refusal_of p k age year term ≡ OutOfLimits
  unfolding refusal_of first_failed
  out-of-limits e = rw e

  -- the table refuses
  pub table-refuses : T (in_limits p) → (first_failed (table_tests p.start (rule_of k) age year term) ≡ Accepted → ⊥)
      → refusal_of p k age year term ≡ first_failed (table_tests p.start (rule_of k) age year term)
  unfolding refusal_of
  table-refuses t n = first-passed _ _ t ∙ failed-append (table_tests p.start (rule_of k) age year term) _ n

  -- the table has it, so the cells decide
  pub cells-decide : T (in_limits p) → InTable p.start (rule_of k) age year term
      → refusal_of p k age year term ≡ cond (path_in_range billionths p (query_path p.start k age year term)) Accepted LogForceOutOfRange
  unfolding refusal_of first_failed table_tests
  cells-decide t h =
      rw (
        is_true (in_limits p) t,
        is_true (age_in_table age) h.age-in,
        is_true (year_in_table p.start (rule_of k) year) h.year-in,
        is_true (date_in_table (rule_of k) term) h.date-in,
        is_true (span_in_table (rule_of k) age year term) h.span-in,
        is_true (rate_in_table (rule_of k)) h.rate-in,
      )

-- ---- the answer to a query, by that along its path

decided : (b : Bool) (q : Quote) → in_range_or b q ≡ answer_by (cond b Accepted LogForceOutOfRange) q
unfolding in_range_or answer_by refusal_number
decided true q = refl
decided false q = refl

pub along-answer : (again : Bool) (p : Params) (k : Kind) (age year term : ℤ) → T (in_limits p) → InTable p.start (rule_of k) age year term
    → path_quote again p (rule_of k).fold (query_path p.start k age year term) ≡ answer_for again p k age year term
unfolding path_quote answer_for query_ends
along-answer again p k age year term t h =
    rw (cells-decide p k age year term t h) (decided (path_in_range billionths p (query_path p.start k age year term)) _)

-- with an open figure worked again it is the definition's
pub for-again : (p : Params) (k : Kind) (age year term : ℤ) → answer_for true p k age year term ≡ answer_of p k age year term
unfolding answer_for quote_for answer_of quote_of
for-again p k age year term = refl

-- the years of a kind
pub years-under : (k : Kind) → Under (rule_of k).years last_years
years-under k = let w = kind-within k in rw w.years-are (under-pos w.last)

-- a set out of its limits
pub refused-out-of-limits : (p : Params) (k : Kind) (age year term : ℤ) → in_limits p ≡ false
    → Err OutOfLimits ≡ answer_of p k age year term
unfolding answer_of answer_by refusal_number
refused-out-of-limits p k age year term e = rw (out-of-limits p k age year term e)

-- an answer that is the definition's meets demand 3
pub met : {p : Params} {k : Kind} {age year term : ℤ} {a : Answer} → a ≡ answer_of p k age year term
    → (a ≡ answer_of p k age year term) × Demand3 p k age year term a
met {p} {k} {age} {year} {term} e = (e, rw e (demand-met p k age year term))

-- an answer that the table refuses
pub number-none : refusal_number Accepted ≡ 0
unfolding refusal_number
number-none = refl

pub table-answer : (again : Bool) (p : Params) (k : Kind) (age year term : ℤ) {r : Refusal} → T (in_limits p)
    → r ≡ first_failed (table_tests p.start (rule_of k) age year term) → (refusal_number r ≡ 0 → ⊥)
    → Err r ≡ answer_for again p k age year term
unfolding answer_for
table-answer again p k age year term {r} t e n =
    let q = quote_for again (step_of (rule_of k).fold) (query_ends p k age year term) in
    refused r q n
    ∙ ap (λ (s : Refusal). answer_by s q)
    (e ∙ sym (table-refuses p k age year term t (λ a. n (ap refusal_number (e ∙ a) ∙ number-none))))

-- ---- the part of a year after the path, as the code has it

pub part_room : (k : Kind) {start age year term : ℤ} {cohort : Bool} {r : Part} → (c : Counted start k age year term)
    → IsPart r (part_of (rule_of k) term)
    → let n = year_number start year in
    PartWithin (record { cohort = cohort; age = nat_abs age; year = n; count = count_of (rule_of k).fold n (nat_abs (span_of (rule_of k) year term)) }) r
unfolding whole/
part_room k {term = term} c i =
    let p = part-within k c in
    let q = part_of (rule_of k) term in
    record {
      days =
          record {
            days = omega (arith, p.small.cross, p.whole, i.days);
            some = omega (arith, q.positive, i.whole);
            whole = omega (arith, p.whole, i.whole);
          };
      age = λ m. (part-after k c (λ z. m (i.days ∙ z))).0;
      year = λ m. (part-after k c (λ z. m (i.days ∙ z))).1;
      room = λ m. let a = part-after k c (λ z. m (i.days ∙ z)) in omega (arith, a.0);
    }
