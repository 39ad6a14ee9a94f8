-- `put_reply` meets its contract: the text of what was found.
use mathlib.Core.Path.{◌≡◌, sym, ap}
use Rattle.text_tokens.specs.laws.ReadLaws.{held}
use Rattle.text_printing.specs.laws.PutLaws.{put_as, room_as}
use Rattle.quote_target.specs.Target.{target_answer}
use Rattle.run_target_line.specs.TargetLine.{found_text, target_reply}
use Rattle.run_target_line.specs.laws.TargetLineLaws.{found-sized}
use Rattle.run_target_line.proofs.put_reply.Goals as goal
use Rattle.run_target_line.proofs.put_reply.Goals.{After-put_found-arg-1}

-- what was found, of the query's own numbers
found : (c : After-put_found-arg-1) → let q = c.args.query in
    c.target_within-found.result ≡ target_answer c.args.p q.age q.target
found c =
    let d = c.struct_told-1.given in
    let q = c.args.query in
    rw (held q.age d.0.1, held q.target d.1.0.1) at c.target_within-found.ensures

text : (c : After-put_found-arg-1) → target_reply c.args.p c.args.query ≡ found_text c.target_within-found.result
unfolding target_reply
text c = sym (ap found_text (found c))

pub put_found-requires : goal.put_found-requires
put_found-requires c =
    let w = c in
    let s = w in
    (rw (found w) (found-sized s.args.p s.requires.0 s.args.query.age s.args.query.target), room_as (text w) s.requires.1)

pub returns : goal.returns
returns c = put_as (sym (text c.before.before.before.before)) c.put_found.ensures
