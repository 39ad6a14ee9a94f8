-- `put_told` meets its contract, case by case.
use borrow.Author.Rules.{rules}
use mir.Val.{SFits}
use mir.Syntax.{w64}
use mir.Facts.{to_z-of_z}
use Rattle.c_target_year.specs.SheetTarget.{told_number, told_year}
use Rattle.c_target_year.proofs.put_told.Goals as goal

pub returns-in-Reached : goal.returns-in-Reached
unfolding told_number told_year
returns-in-Reached c =
    let f : SFits w64 c.in-Reached.named = search rules in
    record { number = rw c.in-Reached.is; year = rw c.in-Reached.is (to_z-of_z f) }

pub returns-in-Open : goal.returns-in-Open
unfolding told_number told_year
returns-in-Open c = record { number = rw c.in-Open.is; year = rw c.in-Open.is }

pub returns-in-Never : goal.returns-in-Never
unfolding told_number told_year
returns-in-Never c = record { number = rw c.in-Never.is; year = rw c.in-Never.is }
