-- A number as the code holds it has as many digits as the one that it stands for.
use mathlib.Core.Path.{◌≡◌}
use Prim.Native.Nat.{◌^◌, ◌<◌}
use lib.IntN.{ℤ, nat_abs}
use Rattle.text_tokens.specs.Number.{most_digits}

-- a number that reads back as one with at most 15 digits
pub small-as : {v z : ℤ} → v ≡ z → nat_abs z < 10 ^ most_digits → nat_abs v < 10 ^ most_digits
small-as e h = rw e h
