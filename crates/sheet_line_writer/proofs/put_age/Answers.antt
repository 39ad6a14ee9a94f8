-- `put_age` meets its contract: the four lines, one right after the other.
use borrow.Author.Rules.{rules}
use mathlib.Core.List.{List, ◌++◌}
use Prim.Native.Nat.{ℕ}
use Rattle.text_tokens.specs.Text.{bytes_of}
use Rattle.text_tokens.specs.Number.{unsigned_text}
use Rattle.sheet.specs.Sheet.{age_keys, line_text, lines_text}
use Rattle.text_printing.specs.code.Put.{Put}
use Rattle.sheet_line_writer.proofs.Four.{Four, room-one, room-two, room-three, room-four, put_four}
use Rattle.sheet_length.specs.code.Parts.{age_text}
use Rattle.sheet_length.specs.laws.Held.{AgeHeld, age-held}
use Rattle.sheet_line_writer.proofs.Line.{line-room, line-put}
use Rattle.sheet_line_writer.proofs.put_age.Goals as goal

-- ---- the needs

pub put_age_line-second-requires : goal.put_age_line-second-requires
unfolding bytes_of age_text age_keys lines_text
put_age_line-second-requires c =
    let values : AgeHeld c.args.a = age-held c.args.a c.requires.0 in
    let lines : let a = c.args.a in Four c.args.buffer.now c.args.at (line_text ((bytes_of "A.") ++ unsigned_text c.args.x) a.level) (line_text ((bytes_of "B.") ++ unsigned_text c.args.x) a.slope) (line_text ((bytes_of "al.") ++ unsigned_text c.args.x) a.alpha) (line_text ((bytes_of "be.") ++ unsigned_text c.args.x) a.beta) = record { room = c.requires.2 } in
    let h = values.level in
    (c.requires.1, h.small, line-room ((bytes_of "A.") ++ unsigned_text c.args.x) h (room-one lines))

pub put_age_line-third-requires : goal.put_age_line-third-requires
unfolding bytes_of age_text age_keys lines_text
put_age_line-third-requires c =
    let values : AgeHeld c.args.a = age-held c.args.a c.requires.0 in
    let lines : let a = c.args.a in Four c.args.buffer.now c.args.at (line_text ((bytes_of "A.") ++ unsigned_text c.args.x) a.level) (line_text ((bytes_of "B.") ++ unsigned_text c.args.x) a.slope) (line_text ((bytes_of "al.") ++ unsigned_text c.args.x) a.alpha) (line_text ((bytes_of "be.") ++ unsigned_text c.args.x) a.beta) = record { room = c.requires.2 } in
    let level-put : Put c.args.buffer.now c.args.at (line_text ((bytes_of "A.") ++ unsigned_text c.args.x) c.args.a.level) c.put_age_line-second.new.buffer c.put_age_line-second.result = line-put ((bytes_of "A.") ++ unsigned_text c.args.x) values.level c.put_age_line-second.ensures in
    let h = values.slope in
    (c.requires.1, h.small, line-room ((bytes_of "B.") ++ unsigned_text c.args.x) h (room-two lines level-put))

pub put_age_line-fourth-requires : goal.put_age_line-fourth-requires
unfolding bytes_of age_text age_keys lines_text
put_age_line-fourth-requires c =
    let values : AgeHeld c.args.a = age-held c.args.a c.requires.0 in
    let lines : let a = c.args.a in Four c.args.buffer.now c.args.at (line_text ((bytes_of "A.") ++ unsigned_text c.args.x) a.level) (line_text ((bytes_of "B.") ++ unsigned_text c.args.x) a.slope) (line_text ((bytes_of "al.") ++ unsigned_text c.args.x) a.alpha) (line_text ((bytes_of "be.") ++ unsigned_text c.args.x) a.beta) = record { room = c.requires.2 } in
    let level-put : Put c.args.buffer.now c.args.at (line_text ((bytes_of "A.") ++ unsigned_text c.args.x) c.args.a.level) c.put_age_line-second.new.buffer c.put_age_line-second.result = line-put ((bytes_of "A.") ++ unsigned_text c.args.x) values.level c.put_age_line-second.ensures in
    let slope-put : let b = c.put_age_line-second in Put b.new.buffer b.result (line_text ((bytes_of "B.") ++ unsigned_text c.args.x) c.args.a.slope) c.put_age_line-third.new.buffer c.put_age_line-third.result = line-put ((bytes_of "B.") ++ unsigned_text c.args.x) values.slope c.put_age_line-third.ensures in
    let room = room-three lines level-put slope-put in
    let h = values.alpha in
    (c.requires.1, h.small, line-room ((bytes_of "al.") ++ unsigned_text c.args.x) h room)

pub put_age_line-requires : goal.put_age_line-requires
unfolding bytes_of age_text age_keys lines_text
put_age_line-requires c =
    let values : AgeHeld c.args.a = age-held c.args.a c.requires.0 in
    let lines : let a = c.args.a in Four c.args.buffer.now c.args.at (line_text ((bytes_of "A.") ++ unsigned_text c.args.x) a.level) (line_text ((bytes_of "B.") ++ unsigned_text c.args.x) a.slope) (line_text ((bytes_of "al.") ++ unsigned_text c.args.x) a.alpha) (line_text ((bytes_of "be.") ++ unsigned_text c.args.x) a.beta) = record { room = c.requires.2 } in
    let level-put : Put c.args.buffer.now c.args.at (line_text ((bytes_of "A.") ++ unsigned_text c.args.x) c.args.a.level) c.put_age_line-second.new.buffer c.put_age_line-second.result = line-put ((bytes_of "A.") ++ unsigned_text c.args.x) values.level c.put_age_line-second.ensures in
    let slope-put : let b = c.put_age_line-second in Put b.new.buffer b.result (line_text ((bytes_of "B.") ++ unsigned_text c.args.x) c.args.a.slope) c.put_age_line-third.new.buffer c.put_age_line-third.result = line-put ((bytes_of "B.") ++ unsigned_text c.args.x) values.slope c.put_age_line-third.ensures in
    let alpha-put : let b = c.put_age_line-third in Put b.new.buffer b.result (line_text ((bytes_of "al.") ++ unsigned_text c.args.x) c.args.a.alpha) c.put_age_line-fourth.new.buffer c.put_age_line-fourth.result = line-put ((bytes_of "al.") ++ unsigned_text c.args.x) values.alpha c.put_age_line-fourth.ensures in
    let room = room-four lines level-put slope-put alpha-put in
    let h = values.beta in
    (c.requires.1, h.small, line-room ((bytes_of "be.") ++ unsigned_text c.args.x) h room)

pub returns : goal.returns
unfolding age_text age_keys lines_text bytes_of
returns c =
    let values : AgeHeld c.args.a = age-held c.args.a c.requires.0 in
    let lines : let a = c.args.a in Four c.args.buffer.now c.args.at (line_text ((bytes_of "A.") ++ unsigned_text c.args.x) a.level) (line_text ((bytes_of "B.") ++ unsigned_text c.args.x) a.slope) (line_text ((bytes_of "al.") ++ unsigned_text c.args.x) a.alpha) (line_text ((bytes_of "be.") ++ unsigned_text c.args.x) a.beta) = record { room = c.requires.2 } in
    let level-put : Put c.args.buffer.now c.args.at (line_text ((bytes_of "A.") ++ unsigned_text c.args.x) c.args.a.level) c.put_age_line-second.new.buffer c.put_age_line-second.result = line-put ((bytes_of "A.") ++ unsigned_text c.args.x) values.level c.put_age_line-second.ensures in
    let slope-put : let b = c.put_age_line-second in Put b.new.buffer b.result (line_text ((bytes_of "B.") ++ unsigned_text c.args.x) c.args.a.slope) c.put_age_line-third.new.buffer c.put_age_line-third.result = line-put ((bytes_of "B.") ++ unsigned_text c.args.x) values.slope c.put_age_line-third.ensures in
    let alpha-put : let b = c.put_age_line-third in Put b.new.buffer b.result (line_text ((bytes_of "al.") ++ unsigned_text c.args.x) c.args.a.alpha) c.put_age_line-fourth.new.buffer c.put_age_line-fourth.result = line-put ((bytes_of "al.") ++ unsigned_text c.args.x) values.alpha c.put_age_line-fourth.ensures in
    let beta-put : let b = c.put_age_line-fourth in Put b.new.buffer b.result (line_text ((bytes_of "be.") ++ unsigned_text c.args.x) c.args.a.beta) c.put_age_line.new.buffer c.put_age_line.result = line-put ((bytes_of "be.") ++ unsigned_text c.args.x) values.beta c.put_age_line.ensures in
    let whole : let s = c.args in Put s.buffer.now s.at (age_text s.a s.x) c.put_age_line.new.buffer c.put_age_line.result = put_four lines level-put slope-put alpha-put beta-put in
    whole
