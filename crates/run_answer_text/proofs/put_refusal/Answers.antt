-- `put_refusal` meets its contract: `no=` with the number, and right after it the line feed.
use borrow.Author.Rules.{rules}
use mathlib.Core.Path.{◌≡◌, sym, ap}
use mathlib.Core.List.{List, ◌++◌}
use Prim.Native.Nat.{ℕ}
use Rattle.text_tokens.specs.Text.{bytes_of}
use Rattle.text_tokens.specs.Number.{unsigned_text}
use Rattle.text_printing.specs.code.Put.{Room, Put}
use Rattle.text_printing.specs.laws.PutLaws.{put_of, put_as, room_as, room-first, room-rest, put-join}
use Rattle.run_answer_text.specs.AnswerText.{refusal_line}
use Rattle.run_answer_text.proofs.put_refusal.Goals as goal
use Rattle.run_answer_text.proofs.put_refusal.Goals.{After-put_field-arg-3-1, After-put_field-end}

-- the line by the number that the code has
abbrev line_of : ℕ → List ℕ
line_of n = (bytes_of "no=" ++ unsigned_text n) ++ bytes_of "\n"

line : (c : After-put_field-arg-3-1) → refusal_line c.args.refusal ≡ line_of c.refusal_number-number.result
unfolding refusal_line
line c = ap line_of (sym c.refusal_number-number.ensures)

room : (c : After-put_field-arg-3-1)
    → Room c.args.buffer.now c.args.at (line_of c.refusal_number-number.result)
room c = room_as (line c) c.requires

number : (c : After-put_field-end) → let n = c in let s = n.args in
    Put s.buffer.now s.at (bytes_of "no=" ++ unsigned_text n.refusal_number-number.result) c.put_field-end.new.buffer
    c.put_field-end.result
unfolding bytes_of
number c = c.put_field-end.ensures

pub put_field-end-requires : goal.put_field-end-requires
unfolding bytes_of
put_field-end-requires c = (search rules, room-first (bytes_of "\n") (room c))

pub put_text-requires : goal.put_text-requires
unfolding bytes_of
put_text-requires c =
    let c₁ = c.before.before.before.before in
    (room-rest {u = bytes_of "\n"} (number c₁.before) (room c₁.before.before)).fits

pub returns : goal.returns
unfolding bytes_of
returns c =
    let c₁ = c.before.before.before.before.before.before.before in
    let n = c₁.before.before.before in
    put_as (sym (line n)) (put-join (number c₁.before.before) (put_of c.put_text.ensures) (room n))
