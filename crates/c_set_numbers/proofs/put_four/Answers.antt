-- `put_four` meets its contract: four stores in a row.
use native.Mathlib.Omega.{arith}
use lib.ListN.{length-set}
use mir.Facts.{to_z-of_z}
use Rattle.c_set_numbers.specs.laws.SetNumbersLaws.{four-stores}
use Rattle.c_set_numbers.proofs.put_four.Goals as goal

pub bounds-values-at-2 : goal.bounds-values-at-2
bounds-values-at-2 c = simp length-set (omega arith)

pub bounds-values-at-3 : goal.bounds-values-at-3
bounds-values-at-3 c = simp length-set (omega arith)

pub bounds-values-at-4 : goal.bounds-values-at-4
bounds-values-at-4 c = simp length-set (omega arith)

pub returns : goal.returns
returns c =
    let s = c.args in
    let f = c.ranges in
    rw (to_z-of_z f.first, to_z-of_z f.second, to_z-of_z f.third, to_z-of_z f.fourth)
    (four-stores s.values.now s.at s.first s.second s.third s.fourth c.requires)
