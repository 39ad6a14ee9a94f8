-- What the code's contracts say beside the definitions: numbers written over others, and a writer's length as it is told.
use Rattle.std.specs.Prelude.{ℕ, ◌+◌, cond, List, ◌++◌, eqb, ℤ, length, take, drop}
use Rattle.set_refusal.specs.Refusals.{refusal_number}
use Rattle.sheet.specs.declared.Written.{Written}

-- the numbers with others written over them from a place on
unfoldable pub over : List ℤ → ℕ → List ℤ → List ℤ
over before at ns = take at before ++ (ns ++ drop (at + length ns) before)

-- a writer's length where it accepts, else what stood there
unfoldable pub told_length : Written → ℕ → ℕ
told_length got before = cond (eqb (refusal_number got.refusal) 0) got.len before
