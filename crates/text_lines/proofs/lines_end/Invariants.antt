use mathlib.Core.Path.{◌≡◌}
use Prim.Native.Nat.{◌+◌, ◌-◌, ◌≤◌}
use lib.ListN.{length, drop}
use Rattle.text_lines.specs.Lines.{first_lines}
use Rattle.text_lines.proofs.lines_end.Given as goal

abbrev pub invariant-loop : goal.invariant-loop
invariant-loop l = record {
  within : l.at ≤ length l.bytes;
  ahead : length (first_lines l.count l.bytes) ≡ l.at + length (first_lines (l.count - l.counter) (drop l.at l.bytes));
}
