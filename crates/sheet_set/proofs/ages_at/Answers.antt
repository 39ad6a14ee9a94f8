-- `ages_at` meets its contract. The loop's invariant: the ages before x are read, and the set's runs hold their values
-- in their first x places.
use mathlib.Core.Path.{◌≡◌, refl, sym, ap, ◌∙◌}
use native.Mathlib.Omega.{arith}
use native.Mathlib.Numerals.{add-one}
use borrow.Author.Rules.{rules}
use lib.IntN.{pos}
use lib.ListN.{get_or}
use mir.Val.{of_z, to_z}
use Rattle.std.specs.Int.{w64}
use Rattle.set_params.specs.Set.{ages}
use Rattle.sheet.specs.Sheet.{age_keys}
use Rattle.sheet_set.specs.code.Ages.{ages_read}
use Rattle.sheet_set.specs.laws.LinesLaws.{four-values}
use Rattle.sheet_set.specs.laws.RunLaws.{ages-start, ages-next, ages-malformed, ages-end}
use Rattle.sheet_set.proofs.ages_at.Goals as goal

pub loop-x-init : goal.loop-x-init
loop-x-init c = ages-start _ _ c.requires

pub returns-in_err-level : goal.returns-in_err-level
returns-in_err-level c =
    ap (ages_read c.args.bytes.now c.loop-x.set) c.from_residual.ensures
    ∙ sym (ages-malformed c.loop-x-test.true (sym c.in_err-level.ensures) c.loop-x.invariant)

pub loop-x-preserved : goal.loop-x-preserved
unfolding age_keys
loop-x-preserved c =
    let vs = c.in_ok-level.field-0-0 in
    let level : to_z w64 (of_z w64 (get_or vs 0 (pos 0))) ≡ get_or vs 0 (pos 0) = search rules in
    let slope : to_z w64 (of_z w64 (get_or vs 1 (pos 0))) ≡ get_or vs 1 (pos 0) = search rules in
    let alpha : to_z w64 (of_z w64 (get_or vs 2 (pos 0))) ≡ get_or vs 2 (pos 0) = search rules in
    let beta : to_z w64 (of_z w64 (get_or vs 3 (pos 0))) ≡ get_or vs 3 (pos 0) = search rules in
    rw (add-one c.loop-x.x, level, slope, alpha, beta)
    (ages-next c.loop-x-test.true (four-values _ _ refl (sym c.in_ok-level.ensures)) c.loop-x.invariant)

pub returns : goal.returns
returns c =
    let all : c.loop-x.x ≡ ages = omega arith in
    sym (ages-end (rw all at c.loop-x.invariant))
