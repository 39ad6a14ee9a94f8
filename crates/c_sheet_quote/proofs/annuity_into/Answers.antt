-- `annuity_into` meets its contract: the answer of the kind that was read of the word, a kind that takes one.
use mir.Facts.{to_z-of_z}
use Rattle.c_sheet_quote.specs.laws.AnswerLaws.{put-read}
use Rattle.c_sheet_quote.proofs.annuity_into.Goals as goal

pub returns : goal.returns
returns c =
    let a = c in
    let k = a in
    let start = k in
    let f = start.ranges in
    let m = put-read c.args.sheet.now c.args.word.now c.args.age c.args.year c.args.span k.rated_kind_of.result (rw (to_z-of_z f.rate) at k.rated_kind_of.ensures) c.args.numbers.now
    (rw (to_z-of_z f.age, to_z-of_z f.year, to_z-of_z f.span) at a.answer_into.ensures.value, rw (to_z-of_z f.age, to_z-of_z f.year, to_z-of_z f.span) at a.answer_into.ensures.numbers_after) in
    record { value = m.0; numbers_after = m.1 }
