-- `put_units` meets its contract: the name, and right after it the number.
use borrow.Author.Rules.{rules}
use Rattle.text_printing.specs.laws.PutLaws.{put_of, room-first, room-rest, put-join}
use Rattle.run_answer_text.specs.AnswerText.{end_text}
use Rattle.run_answer_text.proofs.put_units.Goals as goal

pub put_text-place-requires : goal.put_text-place-requires
put_text-place-requires c =
    let s = c in
    (room-first {t = s.args.name.now} (end_text s.args.n) s.requires.1).fits

pub put_end-requires : goal.put_end-requires
put_end-requires c = (c.requires.0, room-rest (put_of c.put_text-place.ensures) c.requires.1)

pub returns : goal.returns
returns c = put-join (put_of c.put_text-place.ensures) c.put_end.ensures c.requires.1
