-- `put_set` meets its contract: the first eight numbers are put, and then those of one age after another.
use mir.Syntax.{w64}
use borrow.Author.Rules.{rules}
use Rattle.std.proofs.Common.{◌≡◌, ◌∙◌, arith, add-one}
use mir.Facts.{to_z-of_z}
use Rattle.set_params.specs.Set.{ages}
use Rattle.set_params.specs.laws.SetLaws.{four-age}
use Rattle.c_set_numbers.specs.laws.SetNumbersLaws.{head-put, age-put, ages-all}
use Rattle.c_set_numbers.proofs.put_set.Goals as goal

pub loop-x-init : goal.loop-x-init
loop-x-init c =
    let told = c.struct_told-6-1.given in
    let series = told.1.1.1.1.1 in
    head-put c.args.p c.put_four.ensures c.put_four-2.ensures
    (to_z-of_z {w = w64} (search rules) ∙ c.table_number.ensures) (to_z-of_z {w = w64} (search rules) ∙ c.sex_number.ensures)
    (to_z-of_z {w = w64} (search rules)) (to_z-of_z {w = w64} (search rules)) (to_z-of_z {w = w64} (search rules)) (to_z-of_z {w = w64} (search rules))
    (to_z-of_z {w = w64} (search rules)) (to_z-of_z {w = w64} (search rules))

pub loop-x-preserved : goal.loop-x-preserved
loop-x-preserved c =
    let told = c.struct_told-in-loop-x-4-1.given in
    let x = c.loop-x.x in
    rw (add-one x)
    (age-put c.args.p x c.loop-x.invariant c.put_four-in-loop-x.ensures (c.age_of_runs-age.ensures ∙ four-age _ _)
    (to_z-of_z {w = w64} (search rules)) (to_z-of_z {w = w64} (search rules)) (to_z-of_z {w = w64} (search rules)) (to_z-of_z {w = w64} (search rules)))

pub returns : goal.returns
returns c =
    let l = c.loop-x in
    let e : l.x ≡ ages = omega arith in
    ages-all _ (rw e at l.invariant)
