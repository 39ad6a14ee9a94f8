-- How many units of a grid 10^-9 is, at the most, and so how far from 0 a number lies whose bound is that many times another.
use Rattle.std.specs.Prelude.{ℕ, ◌*◌, ◌≤◌, ℤ}
use Rattle.std.proofs.Common.{mul-le-mul_right, lit≤}
use Rattle.number_whole.specs.code.Sizes.{Under}
use Rattle.number_whole.proofs.laws.Bound.{under-weaken}
use Rattle.number_exponential.specs.declared.GridUnit.{GridUnit}
use Rattle.number_exponential.specs.declared.GridUnit.TheVariants.{Coarse, Fine}
use Rattle.number_exponential.specs.Units.{grid_of}

-- of the finest grid
abbrev pub most_scale : ℕ
most_scale = 10000

pub scale-most : (u : GridUnit) → (grid_of u).scale ≤ most_scale
unfolding grid_of
scale-most Coarse = lit≤ tt
scale-most Fine = lit≤ tt

pub under-scaled : (u : GridUnit) {z : ℤ} (k : ℕ) → Under z ((grid_of u).scale * k) → Under z (most_scale * k)
under-scaled u k h = under-weaken h (mul-le-mul_right k (scale-most u))
