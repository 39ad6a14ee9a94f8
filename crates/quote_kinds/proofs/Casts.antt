-- A signed number that is at least 0, as the code casts it to a whole one.
use mathlib.Core.Path.{◌≡◌}
use native.Mathlib.Omega.{arith}
use lib.Dec.{T}
use lib.IntN.{ℤ, pos, negsuc, nat_abs}
use lib.Signed.{non_neg}
use mir.Syntax.{w64}
use mir.Val.{Fits, SFits}
use mir.Facts.{to_z-of_z}
use Rattle.number_whole.proofs.laws.Clash.{clash}
use Rattle.number_whole.proofs.laws.Bound.{bits}

pub cast-whole : {z : ℤ} → SFits w64 z → pos (nat_abs z) ≡ z → T (non_neg (bits z)) × Fits w64 (nat_abs (bits z))
cast-whole {z = pos n} f e = rw (to_z-of_z f) (tt, record { fits = omega (arith, f.sfits) })
cast-whole {z = negsuc n} f e = clash cc
