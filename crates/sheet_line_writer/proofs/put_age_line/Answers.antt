-- `put_age_line` meets its contract: the run's name, the age and what follows a key, one right after the other.
use borrow.Author.Rules.{rules}
use mathlib.Core.Path.{◌≡◌, sym, ap, ◌∙◌}
use mathlib.Core.List.{◌++◌, append_assoc}
use native.Mathlib.Omega.{arith}
use lib.IntN.{pos}
use mir.Syntax.{w64}
use mir.Val.{to_z, of_z}
use mir.Facts.{to_z-of_z}
use Rattle.text_tokens.specs.Number.{unsigned_text, number_text}
use Rattle.sheet.specs.Sheet.{line_text}
use Rattle.text_printing.specs.code.Put.{Put}
use Rattle.text_printing.specs.laws.PutLaws.{put_of, put_as, room_as, Three, three-first, three-second, three_third, three-put}
use Rattle.sheet_line_writer.specs.code.Value.{value_text}
use Rattle.sheet_line_writer.proofs.Small.{small-as}
use Rattle.sheet_line_writer.proofs.put_age_line.Goals as goal

-- ---- the needs

pub put_text-age-requires : goal.put_text-age-requires
unfolding line_text value_text
put_text-age-requires c =
    let line : line_text (c.args.run.now ++ unsigned_text c.args.x) c.args.v ≡ c.args.run.now ++ (unsigned_text c.args.x ++ value_text c.args.v) = append_assoc c.args.run.now (unsigned_text c.args.x) (value_text c.args.v) in
    let texts : Three c.args.buffer.now c.args.at c.args.run.now (unsigned_text c.args.x) (value_text c.args.v) = record { room = room_as line c.requires.2 } in
    (three-first texts).fits

pub put_number-value-requires : goal.put_number-value-requires
unfolding line_text value_text number_text
put_number-value-requires c =
    let age : to_z w64 (of_z w64 c.age_number-number.result) ≡ pos c.args.x = to_z-of_z {w = w64} (record { sfits = c.age_number-number.type_inv }) ∙ c.age_number-number.ensures in
    let line : line_text (c.args.run.now ++ unsigned_text c.args.x) c.args.v ≡ c.args.run.now ++ (unsigned_text c.args.x ++ value_text c.args.v) = append_assoc c.args.run.now (unsigned_text c.args.x) (value_text c.args.v) in
    let texts : Three c.args.buffer.now c.args.at c.args.run.now (unsigned_text c.args.x) (value_text c.args.v) = record { room = room_as line c.requires.2 } in
    let run : let s = c.args in Put s.buffer.now s.at s.run.now c.put_text-age.new.buffer c.put_text-age.result = put_of c.put_text-age.ensures in
    let age-text : number_text (to_z w64 (of_z w64 c.age_number-number.result)) ≡ unsigned_text c.args.x = ap number_text age in
    (small-as age (omega (arith, c.requires.0)), (room_as (sym age-text) (three-second texts run)).fits)

pub put_value-requires : goal.put_value-requires
unfolding line_text value_text number_text
put_value-requires c =
    let value : to_z w64 (of_z w64 c.args.v) ≡ c.args.v = to_z-of_z c.ranges.v in
    let age : to_z w64 (of_z w64 c.age_number-number.result) ≡ pos c.args.x = to_z-of_z {w = w64} (record { sfits = c.age_number-number.type_inv }) ∙ c.age_number-number.ensures in
    let line : line_text (c.args.run.now ++ unsigned_text c.args.x) c.args.v ≡ c.args.run.now ++ (unsigned_text c.args.x ++ value_text c.args.v) = append_assoc c.args.run.now (unsigned_text c.args.x) (value_text c.args.v) in
    let texts : Three c.args.buffer.now c.args.at c.args.run.now (unsigned_text c.args.x) (value_text c.args.v) = record { room = room_as line c.requires.2 } in
    let run : let s = c.args in Put s.buffer.now s.at s.run.now c.put_text-age.new.buffer c.put_text-age.result = put_of c.put_text-age.ensures in
    let age-text : number_text (to_z w64 (of_z w64 c.age_number-number.result)) ≡ unsigned_text c.args.x = ap number_text age in
    let number : let b = c.put_text-age in Put b.new.buffer b.result (unsigned_text c.args.x) c.put_number-value.new.buffer c.put_number-value.result = put_as age-text (put_of c.put_number-value.ensures) in
    let e = value in
    (small-as e c.requires.1, room_as (sym (ap value_text e)) (three_third texts run number))

pub returns : goal.returns
unfolding line_text value_text number_text
returns c =
    let value : to_z w64 (of_z w64 c.args.v) ≡ c.args.v = to_z-of_z c.ranges.v in
    let age : to_z w64 (of_z w64 c.age_number-number.result) ≡ pos c.args.x = to_z-of_z {w = w64} (record { sfits = c.age_number-number.type_inv }) ∙ c.age_number-number.ensures in
    let line : line_text (c.args.run.now ++ unsigned_text c.args.x) c.args.v ≡ c.args.run.now ++ (unsigned_text c.args.x ++ value_text c.args.v) = append_assoc c.args.run.now (unsigned_text c.args.x) (value_text c.args.v) in
    let texts : Three c.args.buffer.now c.args.at c.args.run.now (unsigned_text c.args.x) (value_text c.args.v) = record { room = room_as line c.requires.2 } in
    let run : let s = c.args in Put s.buffer.now s.at s.run.now c.put_text-age.new.buffer c.put_text-age.result = put_of c.put_text-age.ensures in
    let age-text : number_text (to_z w64 (of_z w64 c.age_number-number.result)) ≡ unsigned_text c.args.x = ap number_text age in
    let number : let b = c.put_text-age in Put b.new.buffer b.result (unsigned_text c.args.x) c.put_number-value.new.buffer c.put_number-value.result = put_as age-text (put_of c.put_number-value.ensures) in
    let last = put_as (ap value_text value) c.put_value.ensures in
    put_as (sym line) (three-put texts run number last)
