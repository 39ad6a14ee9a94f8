-- `put_target` meets its contract: what a year tells into the two places, or a refusal's number.
use mathlib.Core.Path.{refl, sym}
use Rattle.c_target_year.specs.SheetTarget.{target_no, found_after, year_after}
use Rattle.c_target_year.proofs.laws.TargetLaws.{put_same}
use Rattle.c_target_year.proofs.put_target.Goals as goal

pub returns-in-Ok : goal.returns-in-Ok
unfolding target_no found_after year_after
returns-in-Ok c =
    let t = c.before.put_told.ensures in
    let m = put_same c.args.found.now c.args.year.now (sym c.before.in-Ok.is) (c.refusal_number.ensures, (t.number, t.year)) in
    record { value = m.0; found_after = m.1.0; year_after = m.1.1 }

pub returns-in-Err : goal.returns-in-Err
unfolding target_no found_after year_after
returns-in-Err c =
    let m = put_same c.args.found.now c.args.year.now (sym c.in-Err.is) (c.refusal_number-in-Err.ensures, (refl, refl)) in
    record { value = m.0; found_after = m.1.0; year_after = m.1.1 }
