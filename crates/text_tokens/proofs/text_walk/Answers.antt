-- `text_walk` meets its contract. The loop's invariant: the test of the whole text is the test of what is left of it.
use mathlib.Core.Path.{sym, ◌∙◌}
use native.Mathlib.Omega.{arith}
use Rattle.text_tokens.proofs.TextSteps.{text-start, text-short, text-end, text-next, text-differs}
use Rattle.text_tokens.proofs.text_walk.Goals as goal

pub returns-then-room-text : goal.returns-then-room-text
returns-then-room-text c = sym (text-short _ _ _ (omega arith))

pub loop-i-init : goal.loop-i-init
loop-i-init c = text-start _ _ _

pub returns-then-bytes-at : goal.returns-then-bytes-at
returns-then-bytes-at c =
    sym (c.loop-i.invariant ∙ text-differs _ _ _ c.loop-i.i (omega arith) (omega arith) c.if-bytes-at.true)

pub loop-i-preserved : goal.loop-i-preserved
loop-i-preserved c = c.loop-i.invariant ∙ text-next _ _ _ c.loop-i.i (omega arith) (omega arith) c.if-bytes-at.false

pub returns : goal.returns
returns c = sym (c.loop-i.invariant ∙ text-end _ _ _ c.loop-i.i (omega arith) (omega arith))
