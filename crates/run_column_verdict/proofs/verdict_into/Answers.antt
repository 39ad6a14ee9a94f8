-- `verdict_into` meets its contract: what is answered by the sheet, put into the place.
use mir.Facts.{to_z-of_z}
use Rattle.run_column_verdict.proofs.laws.VerdictLaws.{put_same}
use Rattle.run_column_verdict.proofs.verdict_into.Goals as goal

pub returns : goal.returns
returns c =
    let a = c in
    let f = a.ranges in
    let m = put_same c.args.verdict.now (rw (to_z-of_z f.year) at a.sheet_verdict.ensures) c.put_judged.ensures in
    record { value = m.0; verdict_after = m.1 }
