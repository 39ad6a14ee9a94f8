-- `put_lines` meets its contract: a refused front's line, or the answers.
use borrow.Author.Rules.{rules}
use mathlib.Core.Path.{◌≡◌, sym, ap, subst, ◌∙◌}
use mathlib.Core.List.{List}
use Prim.Native.Nat.{ℕ}
use native.Mathlib.Omega.{arith}
use Rattle.text_printing.specs.laws.PutLaws.{put_as}
use Rattle.set_refusal.specs.Refusals.{refusal_number}
use Rattle.run_sheets.specs.declared.Front.{Front}
use Rattle.run_sheets.specs.declared.Sheets.{Sheets}
use Rattle.run_sheets.specs.Front.{front_of}
use Rattle.run_sheets.specs.laws.FrontLaws.{Usable, front-usable}
use Rattle.run_line.proofs.laws.ReplyLaws.{longest-between}
use Rattle.run.specs.Run.{sheets_by}
use Rattle.run.proofs.laws.RunLaws.{lines-refused, lines-answered}
use Rattle.run.proofs.put_lines.Goals as goal

usable : (sheets : Sheets) (input : List ℕ) {front : Front} → front ≡ front_of sheets input → Usable input front
usable sheets input e = subst (Usable input) (sym e) (front-usable sheets input)

-- ---- the needs

pub put_refused-requires : goal.put_refused-requires
put_refused-requires c =
    let u = usable (sheets_by c.args.mode) c.args.input.now (c.read_front-front.ensures ∙ ap (λ (m : Sheets). front_of m c.args.input.now) c.sheets_by-sheets.ensures) in
    (u.named, omega (arith, c.requires, longest-between c.args.mode))

pub returns-then-refusal_number-ne0 : goal.returns-then-refusal_number-ne0
returns-then-refusal_number-ne0 c =
    put_as (sym (lines-refused _ _ (c.read_front-front.ensures ∙ ap (λ (m : Sheets). front_of m c.args.input.now) c.sheets_by-sheets.ensures) (λ q. c.if-refusal_number-ne0.true (c.refusal_number.ensures ∙ q))))
    c.put_refused.ensures

pub put_answers-requires : goal.put_answers-requires
put_answers-requires c =
    let u = usable (sheets_by c.args.mode) c.args.input.now (c.read_front-front.ensures ∙ ap (λ (m : Sheets). front_of m c.args.input.now) c.sheets_by-sheets.ensures) in
    let accepted = sym c.refusal_number.ensures ∙ c.if-refusal_number-ne0.false in
    (u.first accepted, u.second accepted, omega (arith, u.within), c.requires)

pub returns : goal.returns
returns c =
    put_as (sym (lines-answered _ _ (c.read_front-front.ensures ∙ ap (λ (m : Sheets). front_of m c.args.input.now) c.sheets_by-sheets.ensures) (sym c.refusal_number.ensures ∙ c.if-refusal_number-ne0.false))) c.put_answers.ensures
