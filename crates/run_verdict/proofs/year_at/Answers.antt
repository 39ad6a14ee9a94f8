-- `year_at` meets its contract: no year is found, or no line feed behind it, or both are read.
use mathlib.Core.Bool.{not}
use mathlib.Core.Path.{ap}
use borrow.Author.Rules.{rules}
use mir.Facts.{to_z-of_z}
use mir.Val.{SFits}
use mir.Syntax.{w64}
use mathlib.Core.Path.{sym, subst, ◌∙◌}
use native.Mathlib.Omega.{arith}
use lib.ListN.{length}
use Rattle.text_tokens.specs.code.Places.{number_read}
use Rattle.run_verdict.specs.code.Code.{PlaceIn}
use Rattle.text_tokens.specs.Text.{bytes_of}
use Rattle.text_tokens.specs.laws.Steps.{goes, stops}
use Rattle.text_tokens.specs.laws.TextLaws.{text-found, text-missing, text-room}
use Rattle.text_tokens.specs.laws.ReadLaws.{lacks, has, read-malformed, read_taken}
use Rattle.run_verdict.proofs.laws.YearLaws.{year-steps}
use Rattle.run_verdict.proofs.year_at.Goals as goal

-- ---- the needs

pub returns-in_err-year : goal.returns-in_err-year
unfolding bytes_of
returns-in_err-year c =
    let none = c.from_residual.ensures in (
      ap (number_read c.args.bytes.now) none ∙ sym (year-steps _ ∙ stops _ (read-malformed _ c.field_at.ensures c.in_err-year.was)),
      subst (PlaceIn (length c.args.bytes.now)) (sym none) tt,
    )

pub returns-then-not-text_at : goal.returns-then-not-text_at
unfolding bytes_of
returns-then-not-text_at c =
    let t = c in
    (sym (year-steps _ ∙ goes _ (read_taken _ c.field_at.ensures c.in_ok-year.was) ∙ stops _ (text-missing _ _ (bytes_of "\n") (lacks t.text_at.ensures (ap not c.if-not-text_at.true)))), tt)

pub overflow_add-result : goal.overflow_add-result
overflow_add-result c =
    let t = c in
    omega (arith, t.ranges, text-room _ _ _ (has t.text_at.ensures (ap not c.if-not-text_at.false)))

pub returns : goal.returns
unfolding bytes_of
returns c =
    let t = c in
    let f : SFits w64 c.in_ok-year.year = search rules in
    let h = has t.text_at.ensures (ap not c.if-not-text_at.false) in (
      rw (to_z-of_z f)
          (sym (year-steps _ ∙ goes _ (read_taken _ c.field_at.ensures c.in_ok-year.was) ∙ goes _ (text-found _ _ (bytes_of "\n") h))),
      omega (arith, text-room _ _ (bytes_of "\n") h),
    )
