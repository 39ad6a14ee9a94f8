-- `put_refused` meets its contract: a blank, and right after it the refusal's line.
use borrow.Author.Rules.{rules}
use mathlib.Core.List.{◌++◌}
use Rattle.text_tokens.specs.Text.{bytes_of}
use Rattle.text_printing.specs.code.Put.{Room, Put}
use Rattle.text_printing.specs.laws.PutLaws.{put_of, room-first, room-rest, put-join}
use Rattle.run_answer_text.specs.AnswerText.{refusal_line, refused_text}
use Rattle.run_answer_text.proofs.put_refused.Goals as goal
use Rattle.run_answer_text.proofs.put_refused.Goals.{Start, After-put_text-place, After-put_refusal}

room : (s : Start) → Room s.args.buffer.now s.args.at (bytes_of " " ++ refusal_line s.args.refusal)
unfolding refused_text
room s = s.requires

blank : (c : After-put_text-place) → let s = c.args in
    Put s.buffer.now s.at (bytes_of " ") c.put_text-place.new.buffer c.put_text-place.result
unfolding bytes_of
blank c = put_of c.put_text-place.ensures

line : (c : After-put_refusal) → let b = c in
    Put b.put_text-place.new.buffer b.put_text-place.result (refusal_line b.args.refusal)
    c.put_refusal.new.buffer c.put_refusal.result
line c = c.put_refusal.ensures

pub put_text-place-requires : goal.put_text-place-requires
unfolding bytes_of
put_text-place-requires c = (room-first {t = bytes_of " "} _ (room c.before.before.before.before)).fits

pub put_refusal-requires : goal.put_refusal-requires
put_refusal-requires c =
    let c₁ = c.before.before.before in
    room-rest (blank c₁) (room c₁.before.before.before.before.before)

pub returns : goal.returns
unfolding refused_text
returns c =
    let c₁ = c.before.before.before.before.before.before in
    put-join (blank c₁.before) (line c.before.before.before) (room c₁.before.before.before.before.before.before)
