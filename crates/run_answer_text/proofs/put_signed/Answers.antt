-- `put_signed` meets its contract: the name, and right after it the number.
use borrow.Author.Rules.{rules}
use mathlib.Core.Path.{◌≡◌}
use mir.Facts.{to_z-of_z}
use mir.Syntax.{w64}
use mir.Val.{to_z, of_z}
use Rattle.text_tokens.specs.Number.{number_text}
use Rattle.text_printing.specs.code.Put.{Room, Put}
use Rattle.text_printing.specs.laws.PutLaws.{put_of, room-first, room-rest, put-join}
use Rattle.run_answer_text.proofs.put_signed.Goals as goal

pub put_text-place-requires : goal.put_text-place-requires
put_text-place-requires c =
    let s = c in
    (room-first {t = s.args.name.now} (number_text s.args.v) s.requires.1).fits

pub put_number-requires : goal.put_number-requires
put_number-requires c =
    rw (to_z-of_z {w = w64} c.ranges.v) (c.requires.0, (room-rest {u = number_text c.args.v} (put_of c.put_text-place.ensures) c.requires.1).fits)

pub returns : goal.returns
returns c =
    put-join (put_of c.put_text-place.ensures) (put_of (rw (to_z-of_z {w = w64} c.ranges.v) at c.put_number.ensures)) c.requires.1
