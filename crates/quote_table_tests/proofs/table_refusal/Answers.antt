-- `table_refusal` meets its contract: the five tests in their order, up to the first that fails.
use mathlib.Core.Path.{◌≡◌, refl, ap, sym, ◌∙◌}
use mathlib.Core.Bool.{Bool, true, false, cond}
use Prim.Native.Nat.{ℕ, suc, ◌+◌, ◌-◌, ◌≤◌}
use native.Mathlib.Omega.{arith}
use lib.IntN.{ℤ, pos, nat_abs, ◌+ℤ◌}
use mir.Syntax.{w64}
use mir.Val.{SFits, to_z, of_z}
use mir.Facts.{to_z-of_z}
use Rattle.number_whole.specs.code.Sizes.{Under}
use Rattle.number_whole.proofs.laws.Bound.{bits, under-lit, under-between, under-add, under-pos, fits, back}
use Rattle.number_whole.proofs.laws.Split.{split, split-neg}
use Rattle.number_whole.proofs.Signed.{sum}
use Rattle.set_params.specs.Limits.{last_start, first_years, last_years}
use Rattle.set_params.specs.code.Within.{StartWithin}
use Rattle.model_closure.specs.Weights.{last_closed}
use Rattle.number_annuity.specs.Annuity.{most_rate}
use Rattle.quote_paths.specs.declared.Fold.{Fold}
use Rattle.quote_paths.specs.declared.Fold.TheVariants.{Death, Survival, Expectancy, Annuity}
use Rattle.quote_kinds.specs.declared.Rule.{Rule}
use Rattle.quote_kinds.specs.Kinds.{most_span, longest_span, span_of}
use Rattle.quote_table_tests.specs.TableTests.{between, age_in_table, year_in_table, date_in_table, span_in_table, rate_in_table, first_failed, table_tests}
use Rattle.quote_table_tests.proofs.laws.TableLaws.{within, dated-day, year-small}
use Rattle.quote_table_tests.proofs.table_refusal.Goals as goal
use Rattle.quote_table_tests.proofs.table_refusal.Tie as tie
use Rattle.quote_table_tests.proofs.table_refusal.Lts as lts
use Rattle.quote_table_tests.proofs.table_refusal.Reads as reads

-- the first and the last year, as they are read
start_under : {start : ℤ} → StartWithin start → Under start last_start
start_under {start} w = under-between (omega (split, split-neg (pos last_start), w.first)) (omega (split, w.last))

first_read : {start : ℤ} → StartWithin start
    → SFits w64 (bits start +ℤ pos first_years) × (bits (bits start +ℤ pos first_years) ≡ start +ℤ pos first_years)
first_read w =
    let u = start_under w in
    sum (back u tt) refl refl (fits (under-add u (under-lit {z = pos first_years} {k = first_years} tt)) tt)

last-read : {start years : ℤ} → StartWithin start → Under years last_years
    → SFits w64 (bits start +ℤ bits years) × (bits (bits start +ℤ bits years) ≡ start +ℤ years)
last-read w y =
    let u = start_under w in
    sum (back u tt) (back y tt) refl (fits (under-add u y) tt)

-- ---- what each test says

age-test : (c : lts.After-between tie.the-claims reads.Pre reads.Post) → c.between.result ≡ age_in_table c.args.age
unfolding age_in_table
age-test c = rw (to_z-of_z c.ranges.age) at c.between.ensures

-- the test of a year between the first and the last, as the code reads the three (written as the facts write it), is the table's
year-read : (start : ℤ) (rule : Rule) {year : ℤ} {r : Bool} → StartWithin start → Under rule.years last_years → bits year ≡ year
    → r ≡ between (to_z w64 (of_z w64 (to_z w64 (of_z w64 start) +ℤ pos first_years)))
    (to_z w64 (of_z w64 (to_z w64 (of_z w64 start) +ℤ to_z w64 (of_z w64 rule.years)))) (to_z w64 (of_z w64 year))
    → r ≡ year_in_table start rule year
unfolding year_in_table
year-read start rule w y e h = rw ((first_read w).1, (last-read w y).1, e) at h

year-test : (c : lts.After-between2 tie.the-claims reads.Pre reads.Post) → c.between-2.result ≡ year_in_table c.args.start c.args.rule c.args.year
year-test c =
    year-read c.args.start c.args.rule c.requires.0 c.requires.1 (to_z-of_z c.ranges.year) c.between-2.ensures

-- ---- past the first, the age is the table's

age-true : (c : lts.Else1 tie.the-claims reads.Pre reads.Post) → age_in_table c.args.age ≡ true
age-true c = sym (age-test c.before) ∙ c.if-not-between.false

year-true : (c : lts.Else2 tie.the-claims reads.Pre reads.Post) → year_in_table c.args.start c.args.rule c.args.year ≡ true
year-true c = sym (year-test c.before) ∙ c.if-not-between-2.false

age-in : (c : lts.Else1 tie.the-claims reads.Pre reads.Post) → let x = c.args.age in
    (bits x ≡ x) × (pos (nat_abs x) ≡ x) × (nat_abs x ≤ last_closed)
unfolding age_in_table
age-in c =
    let w = within 0 last_closed c.args.age (rw (age-true c) tt) in
    (to_z-of_z c.ranges.age, w.0, w.2)

fold_small : (f : Fold) (x : ℕ) → most_span f x ≤ suc last_closed
unfolding most_span
fold_small Death x = omega arith
fold_small Survival x = omega arith
fold_small Expectancy x = omega arith
fold_small (Annuity rate) x = omega arith

span_small : (r : Rule) (x : ℕ) → longest_span r x ≤ suc last_closed
unfolding longest_span
span_small r x = go r.dated
  where
    go : (b : Bool) → cond b (last_closed - x) (most_span r.fold x) ≤ suc last_closed
    go true = omega arith
    go false = fold_small r.fold x

date-test : (c : lts.After-date_in_table tie.the-claims reads.Pre reads.Post) → c.date_in_table.result ≡ date_in_table c.args.rule c.args.term
date-test c = rw (to_z-of_z c.ranges.term) at c.date_in_table.ensures

date-true : (c : lts.Else3 tie.the-claims reads.Pre reads.Post) → date_in_table c.args.rule c.args.term ≡ true
date-true c = sym (date-test c.before) ∙ c.if-not-date_in_table.false

span-read : (c : lts.After-span_of tie.the-claims reads.Pre reads.Post) → bits c.span_of-span.result ≡ span_of c.args.rule c.args.year c.args.term
span-read c =
    to_z-of_z {w = w64} (record { sfits = c.span_of-span.type_inv }) ∙ rw (to_z-of_z c.ranges.year, to_z-of_z c.ranges.term) at c.span_of-span.ensures

-- the year is the table's too
year-under : (c : lts.Else2 tie.the-claims reads.Pre reads.Post) → Under c.args.year 9999
year-under c =
    year-small c.args.start c.args.rule c.args.year c.requires.0 c.requires.1 (rw (year-true c) tt)

span_fits : (c : goal.After-longest_span) → SFits w64 (pos c.longest_span.result)
span_fits c = fits (under-pos {k = suc last_closed} (rw c.longest_span.ensures (span_small _ _))) tt

span-test : (c : lts.After-between3 tie.the-claims reads.Pre reads.Post) → c.between-3.result ≡ span_in_table c.args.rule c.args.age c.args.year c.args.term
unfolding span_in_table
span-test c =
    let m = c.before in
    let p = m.before in
    let a = age-in p.before.before.before.before.before in
    rw (to_z-of_z (span_fits m), span-read p, m.longest_span.ensures, a.0) at c.between-3.ensures

span-true : (c : lts.Else4 tie.the-claims reads.Pre reads.Post) → span_in_table c.args.rule c.args.age c.args.year c.args.term ≡ true
span-true c = sym (span-test c.before) ∙ c.if-not-between-3.false

rate-test : (c : lts.After-between4 tie.the-claims reads.Pre reads.Post) → c.between-4.result ≡ rate_in_table c.args.rule
unfolding rate_in_table
rate-test c =
    c.between-4.ensures ∙ ap (between (pos 0) (pos most_rate)) (to_z-of_z {w = w64} (record { sfits = c.rate_of.type_inv }) ∙ c.rate_of.ensures)

pub overflow_add-first : goal.overflow_add-first
overflow_add-first c = (first_read c.requires.0).0

pub overflow_add-last : goal.overflow_add-last
overflow_add-last c = (last-read c.requires.0 c.requires.1).0

pub returns-then-not-between : goal.returns-then-not-between
unfolding first_failed table_tests
returns-then-not-between c = let e = sym (age-test c.before) ∙ c.if-not-between.true in rw e

pub returns-then-not-between-2 : goal.returns-then-not-between-2
unfolding first_failed table_tests
returns-then-not-between-2 c =
    let b = c.before in
    let e = sym (year-test b) ∙ c.if-not-between-2.true in
    rw (age-true b.before, e)

pub returns-then-not-date_in_table : goal.returns-then-not-date_in_table
unfolding first_failed table_tests
returns-then-not-date_in_table c =
    let b = c.before in
    let y = b.before in
    let e = sym (date-test b) ∙ c.if-not-date_in_table.true in
    rw (age-true y.before.before, year-true y, e)

pub span_of-span-requires : goal.span_of-span-requires
span_of-span-requires c =
    rw (to_z-of_z c.ranges.year, to_z-of_z c.ranges.term)
    (year-under c.before.before.before, dated-day c.args.rule c.args.term (rw (date-true c.before) tt))

pub overflow_cast-age : goal.overflow_cast-age
overflow_cast-age c =
    let a = age-in c.before.before.before.before.before.before in
    rw (a.0, ← a.1) (tt, record { fits = omega (arith, a.2) })

pub longest_span-requires : goal.longest_span-requires
longest_span-requires c =
    let a = age-in c.before.before.before.before.before.before in
    rw a.0 a.2

-- the tests before the span's
before-span : (c : lts.After-span_of tie.the-claims reads.Pre reads.Post) → (age_in_table c.args.age ≡ true) × (year_in_table c.args.start c.args.rule c.args.year ≡ true) × (date_in_table c.args.rule c.args.term ≡ true)
before-span c =
    let d = c.before in
    let y = d.before.before in
    (age-true y.before.before, year-true y, date-true d)

pub returns-then-not-between-3 : goal.returns-then-not-between-3
unfolding first_failed table_tests
returns-then-not-between-3 c =
    let b = c.before in
    let t = before-span b.before.before in
    let e = sym (span-test b) ∙ c.if-not-between-3.true in
    rw (t.0, t.1, t.2, e)

pub returns-then-not-between-4 : goal.returns-then-not-between-4
unfolding first_failed table_tests
returns-then-not-between-4 c =
    let b = c.before in
    let p = b.before.before in
    let t = before-span p.before.before.before in
    let e = sym (rate-test b) ∙ c.if-not-between-4.true in
    rw (t.0, t.1, t.2, span-true p, e)

pub returns : goal.returns
unfolding first_failed table_tests
returns c =
    let b = c.before in
    let p = b.before.before in
    let t = before-span p.before.before.before in
    let e = sym (rate-test b) ∙ c.if-not-between-4.false in
    rw (t.0, t.1, t.2, span-true p, e)

pub overflow_cast-longest_span : goal.overflow_cast-longest_span
overflow_cast-longest_span c = span_fits c
