-- `answer_into` meets its contract: malformed where no kind was read, else the numbers of the answer.
use mathlib.Core.Path.{ap}
use mathlib.Core.List.{[]}
use mir.Facts.{to_z-of_z}
use Rattle.run_query.specs.code.Code.{kind_read}
use Rattle.c_sheet_quote.specs.laws.AnswerLaws.{put-malformed, put-taken}
use Rattle.c_sheet_quote.proofs.answer_into.Goals as goal

pub returns-in_default : goal.returns-in_default
returns-in_default c =
    let m = put-malformed c.args.sheet.now c.args.age c.args.year c.args.term c.args.numbers.now
    (ap (kind_read []) c.in_default.is) c.refusal_number.ensures in
    record { value = m.0; numbers_after = m.1 }

pub returns : goal.returns
returns c =
    let p = c in
    let a = p in
    let k = a in
    let f = k.ranges in
    let m = put-taken c.args.sheet.now c.args.age c.args.year c.args.term c.args.numbers.now
    (ap (kind_read []) k.in-Some.is)
    (rw (to_z-of_z f.age, to_z-of_z f.year, to_z-of_z f.term) at a.sheet_answer.ensures)
    (p.put_answer.ensures.value, p.put_answer.ensures.numbers_after) in
    record { value = m.0; numbers_after = m.1 }
