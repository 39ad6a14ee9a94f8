use mathlib.Core.Path.{◌≡◌}
use mathlib.Core.List.{List}
use Prim.Native.Nat.{ℕ, ◌+◌, ◌-◌, ◌<◌}
use native.Mathlib.Omega.{arith}
use lib.ListN.{length}
use Rattle.text_lines.proofs.laws.LineLaws.{place-within}
use Rattle.run_answer_text.proofs.laws.LineLaws.{Bounded}
use Rattle.run_line.specs.Line.{line_answer, longest_line}
use Rattle.run_line.proofs.laws.ReplyLaws.{line-bounded}
use Rattle.run.proofs.laws.AnswerLaws.{Going, line_at, line-here, going-none, going-room, going_more, going-all}
use Rattle.run.proofs.put_answers.Given as goal

abbrev pub invariant-loop-next : goal.invariant-loop-next
invariant-loop-next l =
    Going (line_answer l.mode l.first l.second) l.input l.at l.initial.out l.out l.next l.len

abbrev pub decreases-loop-next : goal.decreases-loop-next
decreases-loop-next l = length l.input - l.next
