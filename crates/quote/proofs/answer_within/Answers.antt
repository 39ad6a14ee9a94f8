-- `answer_within` meets its contract: the table's refusal, or the answer along the query's path.
use mathlib.Core.Path.{◌≡◌, refl, ap, sym, ◌∙◌}
use native.Mathlib.Omega.{arith}
use borrow.Author.Rules.{rules}
use lib.IntN.{nat_abs}
use mir.Syntax.{w64}
use mir.Val.{SFits}
use mir.Facts.{to_z-of_z}
use Rattle.number_whole.proofs.laws.Bound.{bits}
use Rattle.set_params.specs.Set.{year_number}
use Rattle.set_params.specs.code.Within.{StartWithin}
use Rattle.set_limits.specs.laws.LimitsLaws.{in-limits-start}
use Rattle.quote_paths.specs.code.Code.{IsPart}
use Rattle.quote_kinds.specs.declared.Rule.{Rule}
use Rattle.quote_kinds.specs.Kinds.{rule_of, count_of, span_of, part_of}
use Rattle.quote_table_tests.specs.TableTests.{first_failed, table_tests}
use Rattle.quote_table_tests.proofs.laws.TableLaws.{InTable, in_table}
use Rattle.quote.specs.Quote.{query_path}
use Rattle.quote.specs.code.Code.{path_to}
use Rattle.quote.proofs.laws.Tests.{Counted, counted, path-first, path_room, path-in}
use Rattle.set_refusal.specs.declared.Refusal.TheVariants.{Accepted}
use Rattle.set_refusal.specs.laws.RefusalLaws.{accepted}
use Rattle.quote.proofs.Steps.{table-answer, along-answer, years-under, part_room}
use Rattle.quote.proofs.answer_within.Goals as goal
use Rattle.quote.proofs.answer_within.Tie as tie
use Rattle.quote.proofs.answer_within.Lts as lts
use Rattle.quote.proofs.answer_within.Reads as reads

-- the function's start and its rule, from after the table's refusal, and past it
abbrev ruled : lts.After-table_refusal tie.the-claims reads.Pre reads.Post → lts.After-rule_of tie.the-claims reads.Pre reads.Post
ruled c = c.before.before

abbrev begun : lts.Else1 tie.the-claims reads.Pre reads.Post → lts.Start tie.the-claims reads.Pre reads.Post
begun e = (ruled e.before.before).before

-- the start year, as it is read
start-read : (s : lts.Start tie.the-claims reads.Pre reads.Post) → bits s.args.p.start ≡ s.args.p.start
start-read s = let f : SFits w64 s.args.p.start = search rules in to_z-of_z f

start-within : (s : lts.Start tie.the-claims reads.Pre reads.Post) → StartWithin s.args.p.start
start-within s = in-limits-start s.args.p s.requires

-- the table's refusal, of the query's numbers
refusal_is : (c : lts.After-table_refusal tie.the-claims reads.Pre reads.Post) → let s = (ruled c).before in
    c.table_refusal-refusal.result
    ≡ first_failed (table_tests s.args.p.start (rule_of s.args.kind) s.args.age s.args.year s.args.term)
refusal_is c =
    let r = ruled c in
    let s = r.before in
    let f = s.ranges in
    rw (start-read s, to_z-of_z f.age, to_z-of_z f.year, to_z-of_z f.term) at c.table_refusal-refusal.ensures
    ∙ ap (λ (k : Rule). first_failed (table_tests s.args.p.start k s.args.age s.args.year s.args.term)) r.rule_of-rule.ensures

-- where it is none, the query is in the table
passed : (e : lts.Else1 tie.the-claims reads.Pre reads.Post) → let s = begun e in
    first_failed (table_tests s.args.p.start (rule_of s.args.kind) s.args.age s.args.year s.args.term) ≡ Accepted
passed e =
    let n = e.before in
    let r = n.before in
    sym (refusal_is r) ∙ accepted r.table_refusal-refusal.result (sym n.refusal_number.ensures ∙ e.if-refusal_number-ne0.false)

table : (e : lts.Else1 tie.the-claims reads.Pre reads.Post) → let s = begun e in
    InTable s.args.p.start (rule_of s.args.kind) s.args.age s.args.year s.args.term
table e =
    let s = begun e in
    in_table s.args.p.start (rule_of s.args.kind) s.args.age s.args.year s.args.term (passed e)

numbers : (e : lts.Else1 tie.the-claims reads.Pre reads.Post) → let s = begun e in
    Counted s.args.p.start s.args.kind s.args.age s.args.year s.args.term
numbers e = counted (begun e).args.kind (table e)

pub table_refusal-refusal-requires : goal.table_refusal-refusal-requires
table_refusal-refusal-requires c =
    let s = c.before.before.before in
    rw (start-read s, c.rule_of-rule.ensures) (start-within s, years-under s.args.kind)

pub returns-then-refusal_number-ne0 : goal.returns-then-refusal_number-ne0
returns-then-refusal_number-ne0 c =
    let n = c.before in
    let r = n.before in
    let s = (ruled r).before in
    table-answer s.args.again s.args.p s.args.kind s.args.age s.args.year s.args.term s.requires (refusal_is r)
    (λ e. c.if-refusal_number-ne0.true (n.refusal_number.ensures ∙ e))

-- ---- the path and the part of a year after it

pub path_to-path-requires : goal.path_to-path-requires
path_to-path-requires c =
    let e = c.before.before in
    let s = begun e in
    let f = s.ranges in
    rw (start-read s, to_z-of_z f.age, to_z-of_z f.year, to_z-of_z f.term) (start-within s, passed e)

path-is : (c : lts.After-path_to tie.the-claims reads.Pre reads.Post) → let s = begun c.before.before in
    c.path_to-path.result ≡ path_to s.args.p.start s.args.kind s.args.age s.args.year s.args.term
path-is c =
    let s = begun c.before.before in
    let f = s.ranges in
    rw (start-read s, to_z-of_z f.age, to_z-of_z f.year, to_z-of_z f.term) at c.path_to-path.ensures

pub part_of-requires : goal.part_of-requires
part_of-requires c =
    let e = c.before.before.before in
    let r = ruled e.before.before in
    rw (to_z-of_z r.before.ranges.term, r.rule_of-rule.ensures) (numbers e).date-in

part-is : (c : lts.After-part_of tie.the-claims reads.Pre reads.Post) → let s = begun c.before.before.before in
    IsPart c.part_of.result (part_of (rule_of s.args.kind) s.args.term)
part-is c =
    let r = ruled c.before.before.before.before.before in
    rw (to_z-of_z r.before.ranges.term, r.rule_of-rule.ensures) at c.part_of.ensures

pub quote_along-requires : goal.quote_along-requires
quote_along-requires c =
    let d = c.before.before in
    let e = d.before.before in
    let r = ruled e.before.before in
    let s = r.before in
    let k = numbers e in
    rw (r.rule_of-rule.ensures, path-is d) (
      record { limits = s.requires; age = k.age-in; room = path_room _ k; first = path-first _ k; years = path-in _ k },
      part_room s.args.kind k (part-is c.before),
      k.rate-in,
    )

pub returns : goal.returns
unfolding query_path
returns c =
    let a = c.before in
    let d = a.before in
    let e = d.before.before in
    let r = ruled e.before.before in
    let s = r.before in
    rw (r.rule_of-rule.ensures, path-is d) at c.quote_along.ensures _ (part-is a)
    ∙ along-answer s.args.again s.args.p s.args.kind s.args.age s.args.year s.args.term s.requires (table e)
