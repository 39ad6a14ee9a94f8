use mathlib.Core.Path.{◌≡◌}
use Prim.Native.Nat.{◌+◌, ◌^◌, ◌<◌}
use lib.ListN.{length}
use Rattle.text_tokens.specs.Number.{most_digits, unsigned_text}
use Rattle.text_printing.proofs.digit_count.Given as goal

abbrev pub invariant-loop-rest : goal.invariant-loop-rest
invariant-loop-rest l =
    (l.rest < 10 ^ most_digits) × (l.count + length (unsigned_text l.rest) ≡ 1 + length (unsigned_text l.n))

abbrev pub decreases-loop-rest : goal.decreases-loop-rest
decreases-loop-rest l = l.rest
