-- `run` meets its contract: each turn puts one number more.
use borrow.Author.Rules.{rules}
use Rattle.std.proofs.Common.{◌≡◌, refl, sym, ◌∙◌, ◌+◌, ◌*◌, arith, add-one, get_or, drop, get_or-drop}
use lib.IntN.{pos}
use mir.Syntax.{w64}
use mir.Val.{SFits, to_z, of_z}
use mir.Facts.{to_z-of_z}
use Rattle.set_params.specs.Set.{ages}
use Rattle.sheet_set.specs.laws.RunLaws.{run-start}
use Rattle.c_set_numbers.specs.laws.SetNumbersLaws.{run-put, run-all}
use Rattle.c_set_numbers.proofs.run.Goals as goal

-- the number that is read
read : (c : goal.After-value-in-loop-age-1) → let s = c.args in let age = c.loop-age.age in
    to_z w64 (of_z w64 (get_or s.values.now (2 + s.from + 4 * age) (pos 0))) ≡ get_or (drop 2 s.values.now) (s.from + 4 * age) (pos 0)
read c =
    let s = c.args in
    let age = c.loop-age.age in
    let e : 2 + s.from + 4 * age ≡ 2 + (s.from + 4 * age) = omega arith in
    let f : SFits w64 (get_or s.values.now (2 + s.from + 4 * age) (pos 0)) = search rules in
    to_z-of_z f ∙ rw e (sym (get_or-drop 2 s.values.now (s.from + 4 * age) (pos 0)))

pub loop-age-init : goal.loop-age-init
loop-age-init c = run-start _ _ _ refl

pub loop-age-preserved : goal.loop-age-preserved
loop-age-preserved c =
    rw (add-one c.loop-age.age) (run-put _ (omega arith) (read c) c.loop-age.invariant)

pub returns : goal.returns
returns c =
    let l = c.loop-age in
    let e : l.age ≡ ages = omega arith in
    run-all (rw e at l.invariant)
