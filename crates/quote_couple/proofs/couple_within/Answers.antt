-- `couple_within` meets its contract: starts that differ, the table's refusal, or the answer along the two lives' paths.
use mathlib.Core.Path.{◌≡◌, ap, ap₂, sym, ◌∙◌}
use borrow.Author.Rules.{rules}
use lib.IntN.{ℤ}
use mir.Syntax.{w64}
use mir.Val.{SFits, to_z, of_z}
use mir.Facts.{to_z-of_z}
use Rattle.number_whole.proofs.laws.Bound.{bits}
use Rattle.set_params.specs.code.Within.{StartWithin}
use Rattle.set_limits.specs.laws.LimitsLaws.{in-limits-start}
use Rattle.set_refusal.specs.declared.Refusal.TheVariants.{Accepted}
use Rattle.set_refusal.specs.laws.RefusalLaws.{accepted}
use Rattle.quote_walks.specs.code.Code.{path_is}
use Rattle.quote_kinds.specs.declared.Kind.{Kind}
use Rattle.quote_kinds.specs.declared.Rule.{Rule}
use Rattle.quote_kinds.specs.Kinds.{rule_of}
use Rattle.quote_couple_kinds.specs.CoupleKinds.{single_of}
use Rattle.quote_table_tests.specs.TableTests.{first_failed, table_tests}
use Rattle.quote.specs.code.Code.{path_to}
use Rattle.quote.proofs.Steps.{years-under}
use Rattle.quote_couple.specs.Couple.{couple_table}
use Rattle.quote_couple.specs.code.Code.{paths_quote}
use Rattle.quote_couple.proofs.laws.CoupleTests.{CoupleIn, couple-in, life-in, single-plain}
use Rattle.quote_couple.proofs.Steps.{whole-path, path-within, starts-differ, table-refuses, along-answer}
use Rattle.quote_couple.proofs.couple_within.Goals as goal
use Rattle.quote_couple.proofs.couple_within.Tie as tie
use Rattle.quote_couple.proofs.couple_within.Lts as lts
use Rattle.quote_couple.proofs.couple_within.Reads as reads

-- ---- the start, seen from each place

abbrev begun₁ : lts.Else1 tie.the-claims reads.Pre reads.Post → lts.Start tie.the-claims reads.Pre reads.Post
begun₁ e = e.before.before.before.before.before

abbrev ruled : lts.After-table_refusal tie.the-claims reads.Pre reads.Post → lts.After-rule_of tie.the-claims reads.Pre reads.Post
ruled c = c.before.before

abbrev else₁ : lts.After-table_refusal tie.the-claims reads.Pre reads.Post → lts.Else1 tie.the-claims reads.Pre reads.Post
else₁ c = (ruled c).before.before

abbrev tested : lts.Else2 tie.the-claims reads.Pre reads.Post → lts.After-table_refusal tie.the-claims reads.Pre reads.Post
tested e = e.before.before

abbrev begun : lts.Else2 tie.the-claims reads.Pre reads.Post → lts.Start tie.the-claims reads.Pre reads.Post
begun e = begun₁ (else₁ (tested e))

-- the start years, as they are read
first_read : (s : lts.Start tie.the-claims reads.Pre reads.Post) → bits s.args.first.start ≡ s.args.first.start
first_read s = let f : SFits w64 s.args.first.start = search rules in to_z-of_z f

second-read : (s : lts.Start tie.the-claims reads.Pre reads.Post) → bits s.args.second.start ≡ s.args.second.start
second-read s = let f : SFits w64 s.args.second.start = search rules in to_z-of_z f

first-within : (s : lts.Start tie.the-claims reads.Pre reads.Post) → StartWithin s.args.first.start
first-within s = in-limits-start s.args.first s.requires.0

second-within : (s : lts.Start tie.the-claims reads.Pre reads.Post) → StartWithin s.args.second.start
second-within s = in-limits-start s.args.second s.requires.1

pub returns-then-first-second : goal.returns-then-first-second
returns-then-first-second c =
    let s = c.before.before.before.before.before in
    starts-differ s.args.first s.args.second _ _ _ _ _ s.requires.0 s.requires.1
    (λ e. c.if-first-second.true (ap (of_z w64) e))

-- ---- the table

-- the starts are the same
same : (e : lts.Else1 tie.the-claims reads.Pre reads.Post) → let s = begun₁ e in s.args.first.start ≡ s.args.second.start
same e = let s = begun₁ e in sym (first_read s) ∙ ap (to_z w64) e.if-first-second.false ∙ second-read s

rule-is : (c : lts.After-rule_of tie.the-claims reads.Pre reads.Post) → let s = begun₁ c.before.before in c.rule_of-rule.result ≡ rule_of (single_of s.args.kind)
rule-is c = c.rule_of-rule.ensures ∙ ap rule_of c.before.single_of-single.ensures

pub table_refusal-refusal-requires : goal.table_refusal-refusal-requires
table_refusal-refusal-requires c =
    let r = c.before.before in
    let s = begun₁ r.before.before in
    let k = single_of s.args.kind in
    rw (first_read s, rule-is r) (first-within s, years-under k, single-plain s.args.kind)

refusal_is : (c : lts.After-table_refusal tie.the-claims reads.Pre reads.Post) → let s = begun₁ (else₁ c) in
    c.table_refusal-refusal.result
    ≡ first_failed (couple_table s.args.first.start (rule_of (single_of s.args.kind)) s.args.age s.args.other s.args.year s.args.span)
refusal_is c =
    let s = begun₁ (else₁ c) in
    let f = s.ranges in
    rw (first_read s, to_z-of_z f.age, to_z-of_z f.other, to_z-of_z f.year, to_z-of_z f.span) at c.table_refusal-refusal.ensures
    ∙ ap (λ (r : Rule). first_failed (couple_table s.args.first.start r s.args.age s.args.other s.args.year s.args.span))
    (rule-is (ruled c))

pub returns-then-refusal_number-ne0 : goal.returns-then-refusal_number-ne0
returns-then-refusal_number-ne0 c =
    let n = c.before in
    let t = n.before in
    let s = begun₁ (else₁ t) in
    table-refuses s.args.first s.args.second s.args.kind s.args.age s.args.other s.args.year s.args.span
    s.requires.0 s.requires.1 (same (else₁ t)) (refusal_is t) (λ e. c.if-refusal_number-ne0.true (n.refusal_number.ensures ∙ e))

-- where it refuses nothing, the query is in the table
in_table : (e : lts.Else2 tie.the-claims reads.Pre reads.Post) → let s = begun e in
    CoupleIn s.args.first.start (rule_of (single_of s.args.kind)) s.args.age s.args.other s.args.year s.args.span
in_table e =
    let n = e.before in
    let t = tested e in
    couple-in _ _ _ _ _ _ (sym (refusal_is t) ∙ accepted t.table_refusal-refusal.result (sym n.refusal_number.ensures ∙ e.if-refusal_number-ne0.false))

first-in : (e : lts.Else2 tie.the-claims reads.Pre reads.Post) → let s = begun e in
    first_failed (table_tests s.args.first.start (rule_of (single_of s.args.kind)) s.args.age s.args.year s.args.span) ≡ Accepted
first-in e =
    let h = in_table e in
    life-in _ _ (single-plain (begun e).args.kind) _ _ _ h.age-in h.year-in h.span-in

by-start : (rule : Rule) (x year span : ℤ) {a b : ℤ} → a ≡ b → first_failed (table_tests a rule x year span) ≡ Accepted
    → first_failed (table_tests b rule x year span) ≡ Accepted
by-start rule x year span e h = rw (← e) h

second-in : (e : lts.Else2 tie.the-claims reads.Pre reads.Post) → let s = begun e in
    first_failed (table_tests s.args.second.start (rule_of (single_of s.args.kind)) s.args.other s.args.year s.args.span) ≡ Accepted
second-in e =
    let h = in_table e in
    by-start _ _ _ _ (same (else₁ (tested e)))
    (life-in _ _ (single-plain (begun e).args.kind) _ _ _ h.other-in h.year-in h.other-span-in)

-- ---- the paths

abbrev single : lts.Else2 tie.the-claims reads.Pre reads.Post → lts.After-single_of tie.the-claims reads.Pre reads.Post
single e = (ruled (tested e)).before

pub path_to-path-requires : goal.path_to-path-requires
path_to-path-requires c =
    let e = c.before.before in
    let s = begun e in
    let f = s.ranges in
    rw ((single e).single_of-single.ensures, first_read s, to_z-of_z f.age, to_z-of_z f.year, to_z-of_z f.span) (first-within s, first-in e)

first-path : (c : lts.After-path_to tie.the-claims reads.Pre reads.Post) → let s = begun c.before.before in
    c.path_to-path.result ≡ path_to s.args.first.start (single_of s.args.kind) s.args.age s.args.year s.args.span
first-path c =
    let e = c.before.before in
    let s = begun e in
    let f = s.ranges in
    rw ((single e).single_of-single.ensures, first_read s, to_z-of_z f.age, to_z-of_z f.year, to_z-of_z f.span) at c.path_to-path.ensures

pub path_to-apart-requires : goal.path_to-apart-requires
path_to-apart-requires c =
    let e = c.before.before.before.before in
    let s = begun e in
    let f = s.ranges in
    rw ((single e).single_of-single.ensures, second-read s, to_z-of_z f.other, to_z-of_z f.year, to_z-of_z f.span) (second-within s, second-in e)

second-path : (c : lts.After-path_to2 tie.the-claims reads.Pre reads.Post) → let s = begun c.before.before.before.before in
    c.path_to-apart.result ≡ path_to s.args.second.start (single_of s.args.kind) s.args.other s.args.year s.args.span
second-path c =
    let e = c.before.before.before.before in
    let s = begun e in
    let f = s.ranges in
    rw ((single e).single_of-single.ensures, second-read s, to_z-of_z f.other, to_z-of_z f.year, to_z-of_z f.span) at c.path_to-apart.ensures

-- ---- the answer

-- the two paths are equally long
counts : (k : Kind) {a b : ℤ} (x y z span : ℤ) → a ≡ b → (path_to a k x z span).count ≡ (path_to b k y z span).count
counts k x y z span e = rw e

pub couple_along-requires : goal.couple_along-requires
couple_along-requires c =
    let b = c.before in
    let d = b.before.before in
    let e = d.before.before in
    let s = begun e in
    rw (first-path d, second-path b) (
      path-within s.args.first s.args.kind s.args.age s.args.year s.args.span s.requires.0 (first-in e),
      path-within s.args.second s.args.kind s.args.other s.args.year s.args.span s.requires.1 (second-in e),
      counts (single_of s.args.kind) s.args.age s.args.other s.args.year s.args.span (same (else₁ (tested e))),
    )

pub returns : goal.returns
returns c =
    let b = c.before in
    let d = b.before.before in
    let e = d.before.before in
    let s = begun e in
    let a = s.args in
    c.couple_along.ensures
    ∙ ap₂ (paths_quote a.first a.second a.kind)
    (ap path_is (first-path d) ∙ whole-path a.first a.kind a.age a.year a.span)
    (ap path_is (second-path b) ∙ whole-path a.second a.kind a.other a.year a.span)
    ∙ along-answer a.first a.second a.kind a.age a.other a.year a.span s.requires.0 s.requires.1
    (same (else₁ (tested e))) (in_table e)
