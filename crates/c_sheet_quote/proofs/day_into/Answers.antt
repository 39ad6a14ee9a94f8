-- `day_into` meets its contract: the numbers of the answer to a day.
use mathlib.Core.List.{[]}
use Rattle.text_tokens.specs.Text.{taken}
use Rattle.quote_kinds.specs.declared.Kind.TheVariants.{Day}
use mathlib.Core.Path.{refl}
use mir.Facts.{to_z-of_z}
use Rattle.c_sheet_quote.specs.laws.AnswerLaws.{put-taken}
use Rattle.c_sheet_quote.proofs.day_into.Goals as goal

pub returns : goal.returns
returns c =
    let p = c in
    let a = p in
    let f = a.ranges in
    let m = put-taken c.args.sheet.now {k = taken Day []} c.args.age c.args.year c.args.date c.args.numbers.now refl
    (rw (to_z-of_z f.age, to_z-of_z f.year, to_z-of_z f.date) at a.sheet_answer.ensures)
    (p.put_answer.ensures.value, p.put_answer.ensures.numbers_after) in
    record { value = m.0; numbers_after = m.1 }
