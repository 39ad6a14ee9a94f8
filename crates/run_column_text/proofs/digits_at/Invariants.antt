use mathlib.Core.Path.{◌≡◌}
use lib.ListN.{drop}
use Prim.Native.Nat.{◌-◌}
use Rattle.text_tokens.specs.Number.{read_digits}
use Rattle.run_column_text.proofs.DigitSteps.{Room}
use Rattle.run_column_text.proofs.digits_at.Given as goal

abbrev pub invariant-loop-done : goal.invariant-loop-done
invariant-loop-done l =
    let left = l.count - l._done in
    Room l.value left × (read_digits l.first l.count (drop l.at l.bytes) ≡ read_digits l.value left (drop l.next l.bytes))
