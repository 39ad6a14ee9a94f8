-- `put_judged` meets its contract: a verdict's number into the place, or a refusal's number.
use Rattle.run_column_verdict.proofs.laws.VerdictLaws.{put-verdict, put_refused}
use Rattle.run_column_verdict.proofs.put_judged.Goals as goal

pub returns-in-Ok : goal.returns-in-Ok
returns-in-Ok c =
    let n = c in
    put-verdict _ n.in-Ok.is c.refusal_number.ensures n.verdict_number.ensures

pub returns-in-Err : goal.returns-in-Err
returns-in-Err c = put_refused _ c.in-Err.is c.refusal_number-in-Err.ensures
