-- `put_answers` meets its contract: each turn answers one line more, until none is left.
use mathlib.Core.Path.{◌≡◌}
use mathlib.Core.List.{List}
use Prim.Native.Nat.{ℕ, ◌+◌, ◌-◌, ◌<◌}
use native.Mathlib.Omega.{arith}
use lib.ListN.{length}
use Rattle.text_lines.proofs.laws.LineLaws.{place-within}
use Rattle.run_answer_text.proofs.laws.LineLaws.{Bounded}
use Rattle.run_line.specs.Line.{line_answer, longest_line}
use Rattle.run_line.proofs.laws.ReplyLaws.{line-bounded}
use Rattle.run.proofs.laws.AnswerLaws.{Going, line_at, line-here, going-none, going-room, going_more, going-all}
use Rattle.run.proofs.put_answers.Goals as goal

pub loop-next-init : goal.loop-next-init
loop-next-init c =
    let s = c in
    let a = s.args in
    going-none (line_answer a.mode a.first a.second) a.input.now a.at a.out.now s.requires.2

pub slice_bounds-put_line-count : goal.slice_bounds-put_line-count
slice_bounds-put_line-count c = omega (arith, c.line_end-end.ensures)

pub slice_bounds-put_line-start : goal.slice_bounds-put_line-start
slice_bounds-put_line-start c = omega (arith, c.line_end-end.ensures)

pub slice_bounds-put_line-end : goal.slice_bounds-put_line-end
slice_bounds-put_line-end c =
    omega (arith, c.line_end-end.ensures, place-within c.args.input.now c.loop-next.next c.loop-next.invariant.within)

pub put_line-len-requires : goal.put_line-len-requires
put_line-len-requires c =
    let a = c.args in
    let more : c.loop-next.next < length a.input.now = omega arith in (
      c.requires.0,
      c.requires.1,
      omega (arith, going-room (line-bounded a.mode a.first a.second) c.requires.3 more c.loop-next.invariant),
    )

pub loop-next-smaller : goal.loop-next-smaller
loop-next-smaller c =
    let more : c.loop-next.next < length c.args.input.now = omega arith in
    omega (arith, c.line_end-end.ensures, more, line-here c.args.input.now c.loop-next.next more)

pub loop-next-preserved : goal.loop-next-preserved
loop-next-preserved c =
    let a = c.args in
    let more : c.loop-next.next < length a.input.now = omega arith in
    going_more (line-bounded a.mode a.first a.second) c.requires.3 more c.loop-next.invariant c.line_end-end.ensures
    c.put_line-len.ensures

pub returns : goal.returns
returns c = going-all c.loop-next.invariant (omega arith)

pub line_end-end-requires : goal.line_end-end-requires
line_end-end-requires c = c.loop-next.invariant.within

pub shape_of-out : goal.shape_of-out
shape_of-out c = c.loop-next.invariant.kept
