-- `in_grid` meets its contract: a set's number is one unit of 10^-9 times itself, or 10^4 fine units times.
use mathlib.Core.Path.{◌≡◌, refl, sym, ap, ◌∙◌}
use lib.IntN.{pos, ◌*ℤ◌}
use mir.Syntax.{w64}
use mir.Val.{SFits}
use mir.Facts.{to_z-of_z}
use Rattle.number_whole.proofs.laws.Bound.{bits, fits, under-lit, under-mul}
use Rattle.number_whole.proofs.Signed.{product}
use Rattle.number_exponential.specs.Units.{grid_of}
use Rattle.set_series.specs.Series.{in_grid}
use Rattle.set_series.proofs.laws.Finer.{in_grid-coarse}
use Rattle.set_series.proofs.in_grid.Goals as goal
use Rattle.set_series.proofs.in_grid.Lts as lts
use Rattle.set_series.proofs.in_grid.Reads as reads

-- 10^4·z, as it is read
fine : (s : lts.Start reads.Pre reads.Post) → SFits w64 (pos 10000 *ℤ bits s.args.z) × (bits (pos 10000 *ℤ bits s.args.z) ≡ pos 10000 *ℤ s.args.z)
fine s =
    product {x = pos 10000} refl (to_z-of_z s.ranges.z) refl (fits (under-mul {a = pos 10000} (under-lit {k = 10000} tt) s.requires) tt)

pub returns-in-Fine : goal.returns-in-Fine
unfolding grid_of in_grid
returns-in-Fine c =
    let s = c.before in
    (fine s).1 ∙ sym (ap (λ b. in_grid (grid_of b) s.args.z) c.in-Fine.is)

pub returns-in-Coarse : goal.returns-in-Coarse
unfolding grid_of
returns-in-Coarse c =
    let s = c.before in
    to_z-of_z s.ranges.z ∙ sym (in_grid-coarse s.args.z) ∙ sym (ap (λ b. in_grid (grid_of b) s.args.z) c.in-Coarse.is)

pub overflow_mul-result : goal.overflow_mul-result
overflow_mul-result c = (fine c.before).0
