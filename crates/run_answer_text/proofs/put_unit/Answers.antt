-- `put_unit` meets its contract: a text for each unit.
use borrow.Author.Rules.{rules}
use mathlib.Core.Path.{◌≡◌, sym, ap}
use native.Mathlib.Omega.{arith}
use Rattle.text_tokens.specs.Text.{bytes_of}
use Rattle.text_printing.specs.code.Put.{Room}
use Rattle.text_printing.specs.laws.PutLaws.{put_of, put_as, room_as}
use Rattle.number_exponential.specs.declared.GridUnit.{GridUnit}
use Rattle.run_answer_text.specs.AnswerText.{unit_text}
use Rattle.run_answer_text.proofs.put_unit.Goals as goal
use Rattle.run_answer_text.proofs.put_unit.Goals.{Start}

-- the room, of the unit that was matched
required : (s : Start) {u : GridUnit} → s.args.unit ≡ u → Room s.args.buffer.now s.args.at (unit_text u)
required s e = room_as (ap unit_text e) s.requires

pub put_text-requires : goal.put_text-requires
unfolding unit_text bytes_of
put_text-requires c =
    let t = c.before.before in
    omega (arith, (required t.before.before.before t.in-Coarse.is).fits)

pub put_text-requires-in-Fine : goal.put_text-requires-in-Fine
unfolding unit_text bytes_of
put_text-requires-in-Fine c =
    let t = c.before.before in
    omega (arith, (required t.before.before.before t.in-Fine.is).fits)

pub returns-in-Coarse : goal.returns-in-Coarse
unfolding unit_text bytes_of
returns-in-Coarse c =
    let p = c in
    put_as (sym (ap unit_text p.in-Coarse.is)) (put_of p.put_text.ensures)

pub returns-in-Fine : goal.returns-in-Fine
unfolding unit_text bytes_of
returns-in-Fine c =
    let p = c in
    put_as (sym (ap unit_text p.in-Fine.is)) (put_of p.put_text-in-Fine.ensures)
