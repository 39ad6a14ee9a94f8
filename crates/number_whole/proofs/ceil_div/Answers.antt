-- `ceil_div` meets its contract: the multiples that are added to the number are taken from its quotient.
use Prim.Native.Nat.{◌/◌}
use mir.Facts.{to_z-of_z}
use native.Mathlib.Omega.{arith}
use Rattle.number_whole.specs.Division.{ceil_div}
use Rattle.number_whole.proofs.Rounding.{Back, ceil-back, some, shift_small, shift-under}
use Rattle.number_whole.proofs.ceil_div.Goals as goal

pub overflow_mul-k : goal.overflow_mul-k
overflow_mul-k c = record { fits = omega (arith, shift_small c.requires) }

pub overflow_add-k : goal.overflow_add-k
overflow_add-k c = record { fits = omega (arith, shift_small c.requires) }

pub shifted-requires : goal.shifted-requires
shifted-requires c = (rw (to_z-of_z c.ranges.z) (shift-under c.requires), shift_small c.requires)

quotient : (c : goal.After-shifted) → let s = c.before in
    Back (c.shifted.result / s.args.d) s.args.k (ceil_div s.args.z s.args.d)
quotient c = let s = c.before in ceil-back s.requires (rw (to_z-of_z s.ranges.z) at c.shifted.ensures)

pub overflow_sub-d : goal.overflow_sub-d
overflow_sub-d c = some c.requires

pub nonzero_div-result : goal.nonzero_div-result
nonzero_div-result c = some c.before.requires

pub overflow_cast-result : goal.overflow_cast-result
overflow_cast-result c = (quotient c).cast

pub overflow_cast-result-2 : goal.overflow_cast-result-2
overflow_cast-result-2 c = (quotient c).times

pub overflow_sub-result : goal.overflow_sub-result
overflow_sub-result c = (quotient c).fits

pub returns : goal.returns
returns c = (quotient c).is
