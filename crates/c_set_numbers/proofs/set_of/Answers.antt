-- `set_of` meets its contract: each number is where the set's definition looks for it.
use mathlib.Core.Path.{sym, ap, ◌∙◌}
use lib.IntN.{pos}
use lib.ListN.{get_or}
use mir.Syntax.{w64}
use mir.Val.{SFits}
use mir.Facts.{to_z-of_z}
use Rattle.c_set_numbers.specs.SetNumbers.{table_of, sex_of}
use Rattle.c_set_numbers.specs.laws.SetNumbersLaws.{set-taken}
use borrow.Author.Rules.{rules}
use Rattle.c_set_numbers.proofs.set_of.Goals as goal

pub returns : goal.returns
returns c =
    let r₄ = c in
    let r₃ = r₄ in
    let r₂ = r₃ in
    let r₁ = r₂ in
    let s = r₁ in
    let t = s in
    let ns = t.args.values.now in
    let start = c.result-1.given in
    let a = c.result-2-1.given in
    let theta = c.result-3-1.given in
    let constant = c.result-4-1.given in
    let period = c.result-5-1.given in
    let f : SFits w64 (get_or ns 0 (pos 0)) = search rules in
    let g : SFits w64 (get_or ns 1 (pos 0)) = search rules in
    sym
    (set-taken ns (t.table_of-table.ensures ∙ ap table_of (to_z-of_z f)) (s.sex_of-sex.ensures ∙ ap sex_of (to_z-of_z g))
    (to_z-of_z {w = w64} (search rules)) (to_z-of_z {w = w64} (search rules)) (to_z-of_z {w = w64} (search rules)) (to_z-of_z {w = w64} (search rules)) (to_z-of_z {w = w64} (search rules))
    (to_z-of_z {w = w64} (search rules)) r₁.run-level.ensures r₂.run-slope.ensures r₃.run-alpha.ensures r₄.run-beta.ensures)
