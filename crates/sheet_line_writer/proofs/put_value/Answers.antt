-- `put_value` meets its contract: `=`, the number and the line feed, one right after the other.
use borrow.Author.Rules.{rules}
use mathlib.Core.Path.{◌≡◌, sym, ap}
use mir.Syntax.{w64}
use mir.Val.{to_z, of_z}
use mir.Facts.{to_z-of_z}
use Rattle.text_tokens.specs.Text.{bytes_of}
use Rattle.text_tokens.specs.Number.{number_text}
use Rattle.text_printing.specs.code.Put.{Put}
use Rattle.text_printing.specs.laws.PutLaws.{put_of, put_as, room_as, Three, three-first, three-second, three_third, three-put}
use Rattle.sheet_line_writer.specs.code.Value.{value_text}
use Rattle.sheet_line_writer.proofs.Small.{small-as}
use Rattle.sheet_line_writer.proofs.put_value.Goals as goal

-- ---- the needs

pub put_text-number-requires : goal.put_text-number-requires
unfolding bytes_of value_text
put_text-number-requires c =
    let texts : Three c.args.buffer.now c.args.at (bytes_of "=") (number_text c.args.v) (bytes_of "\n") = record { room = c.requires.1 } in
    (three-first texts).fits

pub put_number-end-requires : goal.put_number-end-requires
unfolding value_text bytes_of
put_number-end-requires c =
    let value : to_z w64 (of_z w64 c.args.v) ≡ c.args.v = to_z-of_z c.ranges.v in
    let texts : Three c.args.buffer.now c.args.at (bytes_of "=") (number_text c.args.v) (bytes_of "\n") = record { room = c.requires.1 } in
    let sign : let s = c.args in Put s.buffer.now s.at (bytes_of "=") c.put_text-number.new.buffer c.put_text-number.result = put_of c.put_text-number.ensures in
    let e = value in
    (small-as e c.requires.0, (room_as (sym (ap number_text e)) (three-second texts sign)).fits)

pub put_text-requires : goal.put_text-requires
unfolding bytes_of value_text
put_text-requires c =
    let value : to_z w64 (of_z w64 c.args.v) ≡ c.args.v = to_z-of_z c.ranges.v in
    let texts : Three c.args.buffer.now c.args.at (bytes_of "=") (number_text c.args.v) (bytes_of "\n") = record { room = c.requires.1 } in
    let sign : let s = c.args in Put s.buffer.now s.at (bytes_of "=") c.put_text-number.new.buffer c.put_text-number.result = put_of c.put_text-number.ensures in
    let number : let b = c.put_text-number in Put b.new.buffer b.result (number_text c.args.v) c.put_number-end.new.buffer c.put_number-end.result = put_as (ap number_text value) (put_of c.put_number-end.ensures) in
    (three_third texts sign number).fits

pub returns : goal.returns
unfolding value_text bytes_of
returns c =
    let value : to_z w64 (of_z w64 c.args.v) ≡ c.args.v = to_z-of_z c.ranges.v in
    let texts : Three c.args.buffer.now c.args.at (bytes_of "=") (number_text c.args.v) (bytes_of "\n") = record { room = c.requires.1 } in
    let sign : let s = c.args in Put s.buffer.now s.at (bytes_of "=") c.put_text-number.new.buffer c.put_text-number.result = put_of c.put_text-number.ensures in
    let number : let b = c.put_text-number in Put b.new.buffer b.result (number_text c.args.v) c.put_number-end.new.buffer c.put_number-end.result = put_as (ap number_text value) (put_of c.put_number-end.ensures) in
    let end : let b = c.put_number-end in Put b.new.buffer b.result (bytes_of "\n") c.put_text.new.buffer c.put_text.result = put_of c.put_text.ensures in
    three-put texts sign number end
