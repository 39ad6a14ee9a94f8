use mathlib.Core.Path.{◌≡◌}
use lib.ListN.{length, take}
use Rattle.text_printing.specs.code.Overwritten.{overwritten}
use Rattle.text_printing.proofs.put_text.Given as goal

abbrev pub invariant-loop-i : goal.invariant-loop-i
invariant-loop-i l =
    (length l.buffer ≡ length l.initial.buffer) × (l.buffer ≡ overwritten l.initial.buffer l.at (take l.i l.text))
