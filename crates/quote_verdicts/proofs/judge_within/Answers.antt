-- `judge_within` meets its contract: the table's refusal of the year, that of a cell out of range, or the verdict by the factors of the
-- year's cells.
use mathlib.Core.Path.{◌≡◌, ap, sym, ◌∙◌}
use mathlib.Core.Bool.{true, false}
use Prim.Native.Nat.{ℕ, suc, ◌+◌, ◌≤◌}
use native.Mathlib.Omega.{arith}
use borrow.Author.Rules.{rules}
use lib.IntN.{ℤ, pos}
use lib.ListN.{length, length-take, take}
use lib.Seq.{take_all, length-take-le}
use mathlib.Core.List.{List}
use Rattle.std.specs.Prelude.{Option}
use Rattle.number_exponential.specs.declared.Ends.{Ends}
use mir.Syntax.{w64}
use mir.Val.{SFits}
use mir.Facts.{to_z-of_z}
use Rattle.number_exponential.specs.declared.GridUnit.TheVariants.{Coarse}
use Rattle.number_exponential.specs.Units.{grid_of, billionths}
use Rattle.number_whole.proofs.laws.Bound.{bits}
use Rattle.number_whole.proofs.laws.Clash.{clash}
use Rattle.set_params.specs.Set.{year_number}
use Rattle.set_params.specs.Limits.{last_years}
use Rattle.set_params.specs.code.Within.{StartWithin}
use Rattle.set_limits.specs.laws.LimitsLaws.{in-limits-start}
use Rattle.set_refusal.specs.laws.RefusalLaws.{accepted}
use Rattle.quote_paths.proofs.laws.Answers.{path-years}
use Rattle.quote_paths.specs.declared.Path.{Path}
use Rattle.quote_walks.specs.code.Code.{PathWithin}
use Rattle.quote_factors.specs.code.Code.{FactorsOf}
use Rattle.quote_kinds.specs.declared.Kind.TheVariants.{Death}
use Rattle.quote_kinds.specs.declared.Rule.{Rule}
use Rattle.quote_kinds.specs.Kinds.{rule_of}
use Rattle.quote_table_tests.specs.TableTests.{first_failed, table_tests}
use Rattle.quote_table_tests.proofs.laws.TableLaws.{InTable, in_table, year-reached}
use Rattle.quote_along.proofs.Value.{path-chances}
use Rattle.quote.proofs.laws.Tests.{Counted, counted, path-first}
use Rattle.quote.proofs.Steps.{years-under}
use Rattle.quote_verdicts.specs.Verdict.{column_ages, year_cells}
use Rattle.quote_verdicts.proofs.Steps.{year-out, cell_out, verdict-by}
use Rattle.quote_verdicts.proofs.judge_within.Goals as goal
use Rattle.quote_verdicts.proofs.judge_within.Tie as tie
use Rattle.quote_verdicts.proofs.judge_within.Lts as lts
use Rattle.quote_verdicts.proofs.judge_within.Reads as reads

-- the function's start and its rule, from after the table's refusal, and past it
abbrev ruled : lts.After-table_refusal tie.the-claims reads.Pre reads.Post → lts.After-rule_of tie.the-claims reads.Pre reads.Post
ruled c = c.before.before

abbrev begun : lts.Else1 tie.the-claims reads.Pre reads.Post → lts.Start tie.the-claims reads.Pre reads.Post
begun e = (ruled e.before.before).before

-- the start year, as it is read
start-read : (s : lts.Start tie.the-claims reads.Pre reads.Post) → bits s.args.p.start ≡ s.args.p.start
start-read s = let f : SFits w64 s.args.p.start = search rules in to_z-of_z f

start-within : (s : lts.Start tie.the-claims reads.Pre reads.Post) → StartWithin s.args.p.start
start-within s = in-limits-start s.args.p s.requires

-- the table's refusal of the year
refusal_is : (c : lts.After-table_refusal tie.the-claims reads.Pre reads.Post) → let s = (ruled c).before in
    c.table_refusal-refusal.result ≡ first_failed (table_tests s.args.p.start (rule_of Death) (pos 0) s.args.year (pos 0))
refusal_is c =
    let r = ruled c in
    let s = r.before in
    rw (start-read s, to_z-of_z s.ranges.year) at c.table_refusal-refusal.ensures
    ∙ ap (λ (k : Rule). first_failed (table_tests s.args.p.start k (pos 0) s.args.year (pos 0))) r.rule_of-rule.ensures

-- where it is none, the year is one of `q`
table : (e : lts.Else1 tie.the-claims reads.Pre reads.Post) → InTable (begun e).args.p.start (rule_of Death) (pos 0) (begun e).args.year (pos 0)
table e =
    let n = e.before in
    let r = n.before in
    in_table (begun e).args.p.start (rule_of Death) (pos 0) (begun e).args.year (pos 0)
    (sym (refusal_is r) ∙ accepted r.table_refusal-refusal.result (sym n.refusal_number.ensures ∙ e.if-refusal_number-ne0.false))

numbers : (e : lts.Else1 tie.the-claims reads.Pre reads.Post) → Counted (begun e).args.p.start Death (pos 0) (begun e).args.year (pos 0)
numbers e = counted Death (table e)

pub table_refusal-refusal-requires : goal.table_refusal-refusal-requires
table_refusal-refusal-requires c =
    let s = c.before.before.before in
    rw (start-read s, c.rule_of-rule.ensures) (start-within s, years-under _)

pub returns-then-refusal_number-ne0 : goal.returns-then-refusal_number-ne0
returns-then-refusal_number-ne0 c =
    let n = c.before in
    let r = n.before in
    let s = (ruled r).before in
    year-out s.args.p s.args.year s.args.column s.requires (refusal_is r)
    (λ e. c.if-refusal_number-ne0.true (n.refusal_number.ensures ∙ e))

-- the year's number
pub year_number-n-requires : goal.year_number-n-requires
year_number-n-requires c =
    let e = c.before.before in
    let s = begun e in
    rw (start-read s, to_z-of_z s.ranges.year) (year-reached (start-within s) (numbers e).year-in)

number_is : (c : lts.After-year_number tie.the-claims reads.Pre reads.Post) → let s = begun c.before.before in
    c.year_number-n.result ≡ year_number s.args.p.start s.args.year
number_is c =
    let s = begun c.before.before in
    rw (start-read s, to_z-of_z s.ranges.year) at c.year_number-n.ensures

-- the year's cells as the code's path
abbrev cells : ℤ → ℤ → Path
cells start year = record { cohort = false; age = 0; year = year_number start year; count = column_ages }

-- a path of one year reaches no other
one-year : (n k : ℕ) → false ≡ true → n + k ≤ suc last_years
one-year n k e = clash cc

within : (e : lts.Else1 tie.the-claims reads.Pre reads.Post) → let s = begun e in PathWithin s.args.p (cells s.args.p.start s.args.year)
within e =
    let s = begun e in
    let f = path-first Death (numbers e) in
    record {
      limits = s.requires;
      age = omega arith;
      room = omega arith;
      first = f;
      years = path-years _ _ _ _ f (one-year (year_number s.args.p.start s.args.year) column_ages);
    }

pub factors_of-requires : goal.factors_of-requires
factors_of-requires c = rw (number_is c.before) (within c.before.before.before)

-- where every cell is in range, their factors
worked : (c : lts.After-factors_of tie.the-claims reads.Pre reads.Post) {r : Option (List Ends)}
    → FactorsOf (grid_of Coarse) c.args.p (record { cohort = false; age = 0; year = c.year_number-n.result; count = column_ages }) r
    → FactorsOf billionths c.args.p (cells c.args.p.start c.args.year) r
unfolding grid_of
worked c h = rw (number_is c.before) at h

pub returns-in_default : goal.returns-in_default
unfolding year_cells
returns-in_default c =
    let f = c.before in
    cell_out c.args.p c.args.year c.args.column c.requires (table f.before.before.before).year-in (sym (worked f c.in_default.ensures).ok)

pub slice_bounds-verdict_on-end : goal.slice_bounds-verdict_on-end
slice_bounds-verdict_on-end c = let h : column_ages ≤ length c.in-Some.ends = omega (arith, c.in-Some.ensures.size) in search rules

pub verdict_on-verdict-requires : goal.verdict_on-verdict-requires
unfolding grid_of
verdict_on-verdict-requires c =
    let f = c.before.before.before.before in
    let w = worked f c.in-Some.ensures in
    (c.requires, path-chances Coarse c.in-Some.ends (within f.before.before.before) w.ends, length-take-le _ _ (omega (arith, w.size)))

pub returns : goal.returns
unfolding year_cells
returns c =
    let f = c.before.before.before.before in
    let w = worked f c.in-Some.ensures in
    let es = take column_ages c.in-Some.ends in
    verdict-by c.args.p c.args.year c.args.column c.requires (table f.before.before.before).year-in es
    (rw (← w.ok) tt) (take_all column_ages es (omega (arith, length-take column_ages c.in-Some.ends)) ∙ w.ends) (rw (to_z-of_z c.ranges.year) at c.verdict_on-verdict.ensures)
