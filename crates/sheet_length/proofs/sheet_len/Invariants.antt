use mathlib.Core.Path.{◌≡◌}
use Prim.Native.Nat.{◌+◌}
use lib.ListN.{length}
use Rattle.sheet_length.specs.code.Parts.{ages_text}
use Rattle.sheet_length.specs.laws.PartsLaws.{front_length}
use Rattle.sheet_length.proofs.sheet_len.Given as goal

abbrev pub invariant-loop-x : goal.invariant-loop-x
invariant-loop-x l = l.len ≡ front_length l.p + length (ages_text l.p l.x)
