use mathlib.Core.Path.{◌≡◌}
use Prim.Native.Nat.{◌+◌, ◌-◌, ◌≤◌}
use lib.ListN.{length, drop}
use Rattle.text_tokens.specs.code.Places.{text_at}
use Rattle.text_tokens.proofs.text_at.Given as goal

abbrev pub invariant-loop-done : goal.invariant-loop-done
invariant-loop-done l =
    (l.done ≤ length l.text) × (text_at l.bytes l.at l.text ≡ text_at l.bytes (l.at + l.done) (drop l.done l.text))

abbrev pub decreases-loop-done : goal.decreases-loop-done
decreases-loop-done l = length l.text - l.done
