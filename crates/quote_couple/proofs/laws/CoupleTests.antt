-- What a couple's query has that no test refuses: each life's query is one that no test refuses, and the starts are the same. And
-- the table's tests of a couple by those of each life.
use Rattle.std.specs.Prelude.{◌≡◌, refl, Bool, true, false, cond, ◌&&◌, T, leb, ℤ, pos, negsuc, nat_abs}
use Rattle.std.proofs.Common.{ap, append-nil, le_antisymm, le_refl, le-leb, leb→le}
use Rattle.std.specs.Int.Signed.{le_z}
use Rattle.std.proofs.Math.Facts.{and_yes}
use Rattle.std.specs.Float.Ieee.Bits.{is_true}
use Rattle.number_whole.proofs.laws.Clash.{clash}
use Rattle.number_fraction.specs.Ratio.{whole/}
use Rattle.number_exponential.specs.Units.{billionths}
use Rattle.set_params.specs.declared.Params.{Params}
use Rattle.set_params.specs.Set.{year_number}
use Rattle.set_refusal.specs.declared.Refusal.TheVariants.{Accepted, NoSuchAge, NoSuchYear, NoSuchSpan}
use Rattle.set_refusal.specs.Refusals.{refusal_number, lower_refusal}
use Rattle.set_limits.specs.InLimits.{in_limits}
use Rattle.quote_paths.specs.Path.{path_of, part_year, path_in_range}
use Rattle.quote_kinds.specs.declared.Rule.{Rule}
use Rattle.quote_kinds.specs.Kinds.{rule_of, rate_of, count_of, span_of, part_of}
use Rattle.quote_couple_kinds.specs.declared.CoupleKind.{CoupleKind}
use Rattle.quote_couple_kinds.specs.declared.CoupleKind.TheVariants.{JointLife, LastSurvivor, JointExpectancy, LastExpectancy}
use Rattle.quote_couple_kinds.specs.CoupleKinds.{single_of}
use Rattle.quote_table_tests.specs.TableTests.{age_in_table, year_in_table, date_in_table, span_in_table, rate_in_table, first_failed, table_tests}
use Rattle.quote_table_tests.proofs.laws.TableLaws.{passed}
use Rattle.quote.specs.Quote.{query_path}
use Rattle.quote.proofs.laws.Tests as life
use Rattle.quote_couple.specs.Couple.{life_path, same_start, couple_table, couple_refusal}
use Rattle.quote_couple.specs.code.Code.{Plain}

-- ---- a couple's kinds

pub single-plain : (k : CoupleKind) → Plain (rule_of (single_of k))
unfolding rule_of single_of rate_of
single-plain JointLife = record { undated = refl; unrated = refl }
single-plain LastSurvivor = record { undated = refl; unrated = refl }
single-plain JointExpectancy = record { undated = refl; unrated = refl }
single-plain LastExpectancy = record { undated = refl; unrated = refl }

-- a life's path has whole years alone
pub life-path : (p : Params) (k : CoupleKind) (age year span : ℤ)
    → life_path p k age year span
    ≡ (let n = year_number p.start year in path_of true (nat_abs age) n (count_of (rule_of (single_of k)).fold n (nat_abs span)))
unfolding query_path part_year part_of span_of rule_of single_of whole/
life-path p JointLife age year span = append-nil _
life-path p LastSurvivor age year span = append-nil _
life-path p JointExpectancy age year span = append-nil _
life-path p LastExpectancy age year span = append-nil _

-- ---- the starts

antisymmetric : (a b : ℤ) → T (le_z a b && le_z b a) → a ≡ b
antisymmetric (pos m) (pos n) t =
    let k = and_yes (leb m n) (leb n m) t in ap pos (le_antisymm (leb→le m n k.0) (leb→le n m k.1))
antisymmetric (pos m) (negsuc n) t = absurd (and_yes (le_z (pos m) (negsuc n)) (le_z (negsuc n) (pos m)) t).0
antisymmetric (negsuc m) (pos n) t = absurd (and_yes (le_z (negsuc m) (pos n)) (le_z (pos n) (negsuc m)) t).1
antisymmetric (negsuc m) (negsuc n) t =
    let k = and_yes (leb n m) (leb m n) t in ap negsuc (le_antisymm (leb→le m n k.1) (leb→le n m k.0))

reflexive : (a : ℤ) → le_z a a ≡ true
reflexive (pos n) = le-leb n n (le_refl n)
reflexive (negsuc n) = le-leb n n (le_refl n)

pub starts-same : (p p' : Params) → T (same_start p p') → p.start ≡ p'.start
unfolding same_start
starts-same p p' t = antisymmetric p.start p'.start t

pub same-starts : (p p' : Params) → p.start ≡ p'.start → same_start p p' ≡ true
unfolding same_start
same-starts p p' e = rw (e, reflexive p'.start)

pub other-starts : (p p' : Params) → (p.start ≡ p'.start → ⊥) → same_start p p' ≡ false
other-starts p p' n = go (same_start p p') refl
  where
    go : (b : Bool) → same_start p p' ≡ b → b ≡ false
    go true e = absurd (n (starts-same p p' (rw e tt)))
    go false e = refl

-- ---- the table's tests

-- the lower of the two lives' refusals, by what passes of the two ages, the year and the two spans
by_tests : (a a' y s s' : Bool)
    → lower_refusal (cond a (cond y (cond s Accepted NoSuchSpan) NoSuchYear) NoSuchAge)
    (cond a' (cond y (cond s' Accepted NoSuchSpan) NoSuchYear) NoSuchAge)
    ≡ cond a (cond a' (cond y (cond s (cond s' Accepted NoSuchSpan) NoSuchSpan) NoSuchYear) NoSuchAge) NoSuchAge
unfolding lower_refusal refusal_number
by_tests false false y s s' = refl
by_tests false true false s s' = refl
by_tests false true true s false = refl
by_tests false true true s true = refl
by_tests true false false s s' = refl
by_tests true false true false s' = refl
by_tests true false true true s' = refl
by_tests true true false s s' = refl
by_tests true true true false false = refl
by_tests true true true false true = refl
by_tests true true true true false = refl
by_tests true true true true true = refl

date-in : (rule : Rule) → Plain rule → (span : ℤ) → date_in_table rule span ≡ true
unfolding date_in_table
date-in rule h span = rw h.undated

rate-in : (rule : Rule) → Plain rule → rate_in_table rule ≡ true
unfolding rate_in_table
rate-in rule h = rw h.unrated

pub table-lower : (start : ℤ) (rule : Rule) → Plain rule → (age age' year span : ℤ)
    → lower_refusal (first_failed (table_tests start rule age year span)) (first_failed (table_tests start rule age' year span))
    ≡ first_failed (couple_table start rule age age' year span)
unfolding first_failed table_tests couple_table
table-lower start rule h age age' year span =
    rw (date-in rule h span, rate-in rule h)
    (by_tests (age_in_table age) (age_in_table age') (year_in_table start rule year) (span_in_table rule age year span)
    (span_in_table rule age' year span))

-- what the table's tests say where none of them fails
pub record CoupleIn (start : ℤ) (rule : Rule) (age age' year span : ℤ) : Type 0 where
  pub age-in : T (age_in_table age)
  pub other-in : T (age_in_table age')
  pub year-in : T (year_in_table start rule year)
  pub span-in : T (span_in_table rule age year span)
  pub other-span-in : T (span_in_table rule age' year span)

pub couple-in : (start : ℤ) (rule : Rule) (age age' year span : ℤ) → first_failed (couple_table start rule age age' year span) ≡ Accepted
    → CoupleIn start rule age age' year span
unfolding first_failed couple_table
couple-in start rule age age' year span e =
    let a = passed (age_in_table age) (λ q. clash cc) e in
    let a' = passed (age_in_table age') (λ q. clash cc) a.1 in
    let y = passed (year_in_table start rule year) (λ q. clash cc) a'.1 in
    let s = passed (span_in_table rule age year span) (λ q. clash cc) y.1 in
    let s' = passed (span_in_table rule age' year span) (λ q. clash cc) s.1 in
    record { age-in = a.0; other-in = a'.0; year-in = y.0; span-in = s.0; other-span-in = s'.0 }

-- each life by itself then passes too
pub life-in : (start : ℤ) (rule : Rule) → Plain rule → (age year span : ℤ) → T (age_in_table age) → T (year_in_table start rule year)
    → T (span_in_table rule age year span) → first_failed (table_tests start rule age year span) ≡ Accepted
unfolding first_failed table_tests
life-in start rule h age year span a y s =
    rw (
      is_true (age_in_table age) a,
      is_true (year_in_table start rule year) y,
      date-in rule h span,
      is_true (span_in_table rule age year span) s,
      rate-in rule h,
    )

-- ---- a query that no test refuses

pub record Passed (p p' : Params) (k : CoupleKind) (age age' year span : ℤ) : Type 0 where
  pub first : life.Passed p (single_of k) age year span
  pub second : life.Passed p' (single_of k) age' year span
  pub start : p.start ≡ p'.start

pub all-passed : (p p' : Params) (k : CoupleKind) (age age' year span : ℤ) → couple_refusal p p' k age age' year span ≡ Accepted
    → Passed p p' k age age' year span
unfolding couple_refusal couple_table first_failed
all-passed p p' k age age' year span e =
    let rule = rule_of (single_of k) in
    let l = passed (in_limits p) (λ q. clash cc) e in
    let l' = passed (in_limits p') (λ q. clash cc) l.1 in
    let z = passed (same_start p p') (λ q. clash cc) l'.1 in
    let a = passed (age_in_table age) (λ q. clash cc) z.1 in
    let a' = passed (age_in_table age') (λ q. clash cc) a.1 in
    let y = passed (year_in_table p.start rule year) (λ q. clash cc) a'.1 in
    let s = passed (span_in_table rule age year span) (λ q. clash cc) y.1 in
    let s' = passed (span_in_table rule age' year span) (λ q. clash cc) s.1 in
    let r = passed (path_in_range billionths p (life_path p k age year span)) (λ q. clash cc) s'.1 in
    let r' = passed (path_in_range billionths p' (life_path p' k age' year span)) (λ q. clash cc) r.1 in
    let d : T (date_in_table rule span) = rw (date-in rule (single-plain k) span) tt in
    let i : T (rate_in_table rule) = rw (rate-in rule (single-plain k)) tt in
    let same = starts-same p p' z.0 in
    record {
      first = record {
        limits = l.0;
        table = record { age-in = a.0; year-in = y.0; date-in = d; span-in = s.0; rate-in = i };
        range = r.0;
      };
      second = record {
        limits = l'.0;
        table = record { age-in = a'.0; year-in = rw (← same) y.0; date-in = d; span-in = s'.0; rate-in = i };
        range = r'.0;
      };
      start = same;
    }
