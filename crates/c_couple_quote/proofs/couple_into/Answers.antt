-- `couple_into` meets its contract: malformed where the word is, else the numbers of the sheets' answer.
use mathlib.Core.Path.{sym, ap, ◌∙◌}
use mir.Facts.{to_z-of_z}
use Rattle.run_couple_query.specs.code.Code.{couple_kind_read}
use Rattle.c_couple_quote.specs.laws.CoupleLaws.{put-malformed, put-taken}
use Rattle.c_couple_quote.proofs.couple_into.Goals as goal

pub returns-in_default : goal.returns-in_default
returns-in_default c =
    let t = c in
    let k = t in
    let m = put-malformed c.args.first.now c.args.second.now c.args.age c.args.other c.args.year c.args.span c.args.numbers.now
    (sym k.couple_kind_of.ensures ∙ ap (couple_kind_read _) t.in_default.is)
    c.refusal_number.ensures in
    record { value = m.0; numbers_after = m.1 }

pub returns : goal.returns
returns c =
    let p = c in
    let a = p in
    let k = a in
    let w = k in
    let f = w.ranges in
    let m = put-taken c.args.first.now c.args.second.now c.args.age c.args.other c.args.year c.args.span c.args.numbers.now
    (sym w.couple_kind_of.ensures ∙ ap (couple_kind_read _) k.in-Some.is)
    (rw (to_z-of_z f.age, to_z-of_z f.other, to_z-of_z f.year, to_z-of_z f.span) at a.sheets_answer.ensures)
    (p.put_answer.ensures.value, p.put_answer.ensures.numbers_after) in
    record { value = m.0; numbers_after = m.1 }
