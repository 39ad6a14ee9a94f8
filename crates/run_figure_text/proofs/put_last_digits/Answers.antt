-- `put_last_digits` meets its contract: each turn writes one more of the last digits, before those that are written.
use Rattle.std.proofs.Common.{arith}
use Rattle.run_figure_text.proofs.laws.FigureTextLaws.{last-length}
use Rattle.run_figure_text.proofs.Tail.{tail_none, tail-room, tail_more, tail-put}
use Rattle.run_figure_text.proofs.put_last_digits.Goals as goal

pub loop-place-init : goal.loop-place-init
loop-place-init c = tail_none c.args.buffer.now c.args.at c.args.decimals c.args.n

pub overflow_add-buffer-in-loop-place : goal.overflow_add-buffer-in-loop-place
overflow_add-buffer-in-loop-place c = omega (arith, tail-room c.loop-place.invariant c.requires)

pub bounds-buffer-at : goal.bounds-buffer-at
bounds-buffer-at c = omega (arith, tail-room c.loop-place.invariant c.requires)

pub loop-place-preserved : goal.loop-place-preserved
loop-place-preserved c = tail_more c.loop-place.invariant c.requires c.loop-place-test.true

pub overflow_add-result : goal.overflow_add-result
overflow_add-result c = omega (arith, c.requires.fits, last-length c.args.decimals c.args.n)

pub returns : goal.returns
returns c = tail-put c.loop-place.invariant c.requires (omega arith)
