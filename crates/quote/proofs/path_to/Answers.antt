-- `path_to` meets its contract: the numbers of a query in the table, as the path counts them.
use mathlib.Core.Path.{◌≡◌, refl, ap, ap₂, sym, ◌∙◌}
use mathlib.Core.Bool.{Bool}
use Prim.Native.Nat.{ℕ}
use native.Mathlib.Omega.{arith}
use borrow.Author.Rules.{rules}
use lib.IntN.{nat_abs}
use mir.Syntax.{w64}
use mir.Facts.{to_z-of_z}
use Rattle.set_params.specs.Set.{year_number}
use Rattle.quote_paths.specs.declared.Path.{Path}
use Rattle.quote_kinds.specs.declared.Rule.{Rule}
use Rattle.quote_kinds.specs.Kinds.{rule_of, count_of, span_of}
use Rattle.quote_table_tests.proofs.laws.TableLaws.{InTable, in_table, year-small, year-reached}
use Rattle.quote.proofs.laws.Tests.{Counted, counted, path-first}
use Rattle.quote_kinds.proofs.Casts.{cast-whole}
use Rattle.quote.proofs.Steps.{years-under}
use Rattle.quote.proofs.path_to.Goals as goal
use Rattle.quote.proofs.path_to.Tie as tie
use Rattle.quote.proofs.path_to.Lts as lts
use Rattle.quote.proofs.path_to.Reads as reads

-- the query is in the table
table : (s : lts.Start tie.the-claims reads.Pre reads.Post) → InTable s.args.start (rule_of s.args.kind) s.args.age s.args.year s.args.term
table s = in_table s.args.start (rule_of s.args.kind) s.args.age s.args.year s.args.term s.requires.1

numbers : (s : lts.Start tie.the-claims reads.Pre reads.Post) → Counted s.args.start s.args.kind s.args.age s.args.year s.args.term
numbers s = counted s.args.kind (table s)

-- the start, the year and the term, as they are read
pub year_number-n-requires : goal.year_number-n-requires
year_number-n-requires c =
    let s = c.before in
    rw (to_z-of_z s.ranges.start, to_z-of_z s.ranges.year) (year-reached s.requires.0 (numbers s).year-in)

number_is : (c : lts.After-year_number tie.the-claims reads.Pre reads.Post) → let s = c.before.before in
    c.year_number-n.result ≡ year_number s.args.start s.args.year
number_is c =
    let s = c.before.before in rw (to_z-of_z s.ranges.start, to_z-of_z s.ranges.year) at c.year_number-n.ensures

pub span_of-span-requires : goal.span_of-span-requires
span_of-span-requires c =
    let r = c.before in
    let s = r.before in
    let k = s.args.kind in
    rw (to_z-of_z s.ranges.year, to_z-of_z s.ranges.term, r.rule_of-rule.ensures)
    (year-small s.args.start (rule_of k) s.args.year s.requires.0 (years-under k) (table s).year-in, (numbers s).date-in)

span-is : (c : lts.After-span_of tie.the-claims reads.Pre reads.Post) → let s = c.before.before.before in
    c.span_of-span.result ≡ span_of (rule_of s.args.kind) s.args.year s.args.term
span-is c =
    let r = c.before.before in
    let s = r.before in
    rw (to_z-of_z s.ranges.year, to_z-of_z s.ranges.term, r.rule_of-rule.ensures) at c.span_of-span.ensures

pub overflow_cast-span : goal.overflow_cast-span
overflow_cast-span c =
    cast-whole {z = c.span_of-span.result} (record { sfits = c.span_of-span.type_inv })
    (rw (span-is c) (numbers c.before.before.before).span-is)

pub count_of-requires : goal.count_of-requires
count_of-requires c =
    let y = c.before in omega (arith, number_is y, path-first _ (numbers y.before.before))

count-is : (c : lts.After-count_of tie.the-claims reads.Pre reads.Post) → let s = c.before.before.before.before in
    c.count_of.result ≡ count_of (rule_of s.args.kind).fold (year_number s.args.start s.args.year)
    (nat_abs (span_of (rule_of s.args.kind) s.args.year s.args.term))
count-is c =
    let p = c.before in
    let y = p.before in
    rw (y.before.rule_of-rule.ensures, number_is y, to_z-of_z {w = w64} (record { sfits = p.span_of-span.type_inv }), span-is p) at c.count_of.ensures

path-by : {w w' : Bool} {x x' n n' k k' : ℕ} → w ≡ w' → x ≡ x' → n ≡ n' → k ≡ k'
    → ◌≡◌ {A = Path} (record { cohort = w; age = x; year = n; count = k }) (record { cohort = w'; age = x'; year = n'; count = k' })
path-by a b c d = rw (a, b, c, d)

pub returns : goal.returns
returns c =
    let y = c.before.before in
    let r = y.before in
    path-by (ap (λ (q : Rule). q.cohort) r.rule_of-rule.ensures) (ap nat_abs (to_z-of_z r.before.ranges.age)) (number_is y) (count-is c)

pub overflow_cast-result : goal.overflow_cast-result
overflow_cast-result c = let s = c.before.before.before in cast-whole s.ranges.age (numbers s).age-is
