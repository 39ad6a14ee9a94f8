-- `put_verdict` meets its contract: a malformed year's line, a refused sheet, or the line of the year.
use borrow.Author.Rules.{rules}
use mir.Facts.{to_z-of_z}
use mathlib.Core.Path.{sym, ap, subst, ◌∙◌}
use mathlib.Core.List.{List}
use Prim.Native.Nat.{ℕ, ◌≤◌}
use native.Mathlib.Omega.{arith}
use mir.Syntax.{w64}
use mir.Val.{SFits}
use lib.ListN.{length}
use Rattle.text_tokens.specs.laws.ReadLaws.{read-malformed, read_taken}
use Rattle.text_printing.specs.code.Put.{Room}
use Rattle.text_printing.specs.laws.PutLaws.{put_as, room_as}
use Rattle.set_refusal.specs.declared.Refusal.{Refusal}
use Rattle.run_answer_text.specs.AnswerText.{refusal_line}
use Rattle.run_answer_text.proofs.laws.Lengths.{refusal-length}
use Rattle.run_sheets.specs.laws.FrontLaws.{rest_from}
use Rattle.run_column_verdict.specs.ColumnVerdict.{column_verdict}
use Rattle.run_verdict_text.specs.VerdictText.{verdict_line, most_verdict}
use Rattle.run_verdict.specs.VerdictRun.{verdict_run}
use Rattle.run_verdict.specs.code.Code.{PlaceIn}
use Rattle.run_verdict.proofs.laws.YearLaws.{year-small}
use Rattle.run_verdict.proofs.laws.RunLaws.{run-malformed, run-refused, run-judged, run-most}
use Rattle.run_verdict.proofs.put_verdict.Goals as goal

-- ---- there is room, for the line and for any refusal

refusal-room : (bytes : List ℕ) (r : Refusal) → most_verdict ≤ length bytes → Room bytes 0 (refusal_line r)
refusal-room bytes r h = record { fits = omega (arith, h, refusal-length r) }

line-room : (out input : List ℕ) → most_verdict ≤ length out → Room out 0 (verdict_run input)
line-room out input h = record { fits = omega (arith, h, run-most input) }

-- ---- the needs

pub put_refusal-requires : goal.put_refusal-requires
put_refusal-requires c = refusal-room _ _ c.requires

pub returns-in_default : goal.returns-in_default
returns-in_default c =
    let none = read-malformed _ c.year_at.ensures.0 c.in_default.is in
    put_as (sym (run-malformed c.args.input.now c.read_front-front.ensures none)) c.put_refusal.ensures

pub put_refusal-requires-then-refusal_number-ne0 : goal.put_refusal-requires-then-refusal_number-ne0
put_refusal-requires-then-refusal_number-ne0 c = refusal-room _ _ c.requires

pub returns-then-refusal_number-ne0 : goal.returns-then-refusal_number-ne0
returns-then-refusal_number-ne0 c =
    put_as
    (sym (run-refused c.args.input.now c.read_front-front.ensures (read_taken _ c.year_at.ensures.0 c.in-Some.is)
    (λ q. c.if-refusal_number-ne0.true (c.refusal_number.ensures ∙ q))))
    c.put_refusal-then-refusal_number-ne0.ensures

-- the column begins within the input
pub slice_bounds-verdict_on-count : goal.slice_bounds-verdict_on-count
slice_bounds-verdict_on-count c = subst (PlaceIn (length c.args.input.now)) c.in-Some.is c.year_at.ensures.1

pub slice_bounds-verdict_on-start : goal.slice_bounds-verdict_on-start
slice_bounds-verdict_on-start c = subst (PlaceIn (length c.args.input.now)) c.in-Some.is c.year_at.ensures.1

-- the line of the year
pub put_line-requires : goal.put_line-requires
put_line-requires c =
    let s = c.args in
    let f : SFits w64 c.in-Some.year = search rules in
    let line = run-judged s.input.now c.read_front-front.ensures (read_taken _ c.year_at.ensures.0 c.in-Some.is) (sym c.refusal_number.ensures ∙ c.if-refusal_number-ne0.false)
    ∙ ap (verdict_line c.in-Some.year)
    (sym ((rw (to_z-of_z f) at c.verdict_on-judged.ensures.answered)
    ∙ ap (column_verdict c.read_front-front.result.first c.in-Some.year) (rest_from s.input.now c.in-Some.next))) in
    rw (to_z-of_z f) (year-small _ (read_taken _ c.year_at.ensures.0 c.in-Some.is), room_as line (line-room _ s.input.now c.requires))

pub returns : goal.returns
returns c =
    let s = c.args in
    let f : SFits w64 c.in-Some.year = search rules in
    let line = run-judged s.input.now c.read_front-front.ensures (read_taken _ c.year_at.ensures.0 c.in-Some.is) (sym c.refusal_number.ensures ∙ c.if-refusal_number-ne0.false)
    ∙ ap (verdict_line c.in-Some.year)
    (sym ((rw (to_z-of_z f) at c.verdict_on-judged.ensures.answered)
    ∙ ap (column_verdict c.read_front-front.result.first c.in-Some.year) (rest_from s.input.now c.in-Some.next))) in
    put_as (sym line) (rw (to_z-of_z f) at c.put_line.ensures)
