use mathlib.Core.Path.{◌≡◌}
use mathlib.Core.List.{List}
use Prim.Native.Nat.{ℕ, ◌≤◌}
use lib.ListN.{length}
use Rattle.run_column_text.specs.Column.{column_lines, column_of}
use Rattle.run_column_text.specs.laws.RowLaws.{column_from}
use Rattle.run_column_text.proofs.column_of.Given as goal

-- after x rows
pub record Read (bytes steps : List ℕ) (x at : ℕ) : Type 0 where
  pub most : x ≤ column_lines
  pub within : at ≤ length bytes
  pub long : length steps ≡ column_lines
  pub whole : column_of bytes ≡ column_from bytes at steps x

abbrev pub invariant-loop-x : goal.invariant-loop-x
invariant-loop-x l = Read l.bytes l.steps l.x l.at
