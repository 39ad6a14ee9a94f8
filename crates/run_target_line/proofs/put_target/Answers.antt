-- `put_target` meets its contract: a malformed line's refusal, or the line without its line feed and what follows.
use mathlib.Core.Path.{sym, ap, ◌∙◌}
use mathlib.Core.List.{List}
use Prim.Native.Nat.{ℕ}
use Rattle.run_target_line.specs.TargetLine.{read_target}
use Rattle.run_target_line.specs.code.Code.{target_read}
use Rattle.run_target_line.specs.TargetLine.{target_reply}
use Rattle.run_target_line.specs.laws.TargetLineLaws.{target-lengths, target-bounded}
use Rattle.run_answer_text.proofs.LineSteps.{Answering, answering, refusal-room, refusal-put, echo-room, reply-room, reply-put}
use Rattle.run_target_line.proofs.put_target.Goals as goal
use Rattle.run_target_line.proofs.put_target.Goals.{Start}

abbrev line : Start → List ℕ
line s = s.args.line.now

step : (s : Start) → Answering read_target (target_reply s.args.p) s.args.buffer.now s.args.at (line s)
step s = answering target-lengths (target-bounded s.args.p) (line s) s.requires.1

-- ---- the needs, by what the line reads as

pub put_refusal-requires : goal.put_refusal-requires
put_refusal-requires c = refusal-room (step c.before.before.before.before.before.before) (sym c.target_query_of.ensures ∙ ap target_read c.in_default.is)

pub returns-in_default : goal.returns-in_default
returns-in_default c =
    refusal-put (step c.before.before.before.before.before.before.before.before.before) (sym c.target_query_of.ensures ∙ ap target_read c.in_default.is) c.put_refusal.ensures

pub put_echo-place-requires : goal.put_echo-place-requires
put_echo-place-requires c = echo-room (step c.before.before.before.before.before.before) (sym c.target_query_of.ensures ∙ ap target_read c.in-Some.is)

pub put_reply-requires : goal.put_reply-requires
put_reply-requires c =
    (c.requires.0, reply-room (step c.before.before.before.before.before.before.before.before.before.before) (sym c.target_query_of.ensures ∙ ap target_read c.in-Some.is) c.put_echo-place.ensures)

pub returns : goal.returns
returns c =
    reply-put (step c.before.before.before.before.before.before.before.before.before.before.before.before.before) (sym c.target_query_of.ensures ∙ ap target_read c.in-Some.is) c.put_echo-place.ensures c.put_reply.ensures
