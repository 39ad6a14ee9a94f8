-- `put_text` meets its contract: after i turns the first i bytes of the text are written.
use mathlib.Core.Path.{◌≡◌, refl, sym, ap, ◌∙◌}
use native.Mathlib.Numerals.{add-one}
use native.Mathlib.Omega.{arith}
use lib.ListN.{length, take, get_or, length-set}
use lib.Seq.{length-take-le, take-suc, take_all}
use Rattle.text_printing.specs.code.Overwritten.{overwritten}
use Rattle.text_printing.specs.laws.OverwrittenLaws.{overwritten-none, overwritten-next}
use Rattle.text_printing.proofs.put_text.Goals as goal

pub loop-i-init : goal.loop-i-init
loop-i-init c = (refl, sym (overwritten-none c.args.buffer.now c.args.at))

pub loop-i-preserved : goal.loop-i-preserved
loop-i-preserved c =
    let text = c.args.text.now in
    let i = c.loop-i.i in
    let e : length (take i text) ≡ i = length-take-le i text (omega arith) in
    let n = overwritten-next c.args.buffer.now c.args.at (take i text) (get_or text i 0) (omega arith) in
    let t = take-suc text i 0 (omega arith) in
    (simp length-set c.loop-i.invariant.0, cc (add-one i))

pub returns : goal.returns
returns c =
    (refl, c.loop-i.invariant.1 ∙ ap (overwritten c.args.buffer.now c.args.at) (take_all c.loop-i.i c.args.text.now (omega arith)))
