-- `target_into` meets its contract: the answer by the sheet, put into the two places.
use borrow.Author.Rules.{rules}
use mir.Facts.{to_z-of_z}
use Rattle.c_target_year.proofs.laws.TargetLaws.{put_same}
use Rattle.c_target_year.proofs.target_into.Goals as goal

pub returns : goal.returns
returns c =
    let a = c in
    let f = a.ranges in
    let m = put_same c.args.found.now c.args.year.now (rw (to_z-of_z f.age, to_z-of_z f.target) at a.sheet_target.ensures)
    (c.put_target.ensures.value, (c.put_target.ensures.found_after, c.put_target.ensures.year_after)) in
    record { value = m.0; found_after = m.1.0; year_after = m.1.1 }
