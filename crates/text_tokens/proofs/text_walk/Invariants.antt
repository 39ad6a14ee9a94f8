use mathlib.Core.Path.{◌≡◌}
use Prim.Native.Nat.{◌+◌}
use lib.ListN.{drop}
use Rattle.text_tokens.specs.code.Places.{text_at}
use Rattle.text_tokens.proofs.text_walk.Given as goal

abbrev pub invariant-loop-i : goal.invariant-loop-i
invariant-loop-i l = text_at l.bytes l.at l.text ≡ text_at l.bytes (l.at + l.i) (drop l.i l.text)
