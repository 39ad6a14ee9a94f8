-- `put_answer` meets its contract: a quote's numbers, or a refusal's number.
use Rattle.c_sheet_quote.specs.laws.AnswerLaws.{put-quoted, put_refused}
use Rattle.c_sheet_quote.proofs.put_answer.Goals as goal

pub returns-in-Ok : goal.returns-in-Ok
returns-in-Ok c =
    let p = c in
    let m = put-quoted c.args.numbers.now p.in-Ok.is (p.put_quote.ensures.value, p.put_quote.ensures.numbers_after) in
    record { value = m.0; numbers_after = m.1 }

pub returns-in-Err : goal.returns-in-Err
returns-in-Err c =
    let m = put_refused c.args.numbers.now c.in-Err.is c.refusal_number.ensures in
    record { value = m.0; numbers_after = m.1 }
