-- `period_index` meets its contract: n·theta and the sum fit for a series in its limits.
use mathlib.Core.Path.{◌≡◌, refl}
use lib.IntN.{pos, ◌*ℤ◌}
use mir.Syntax.{w64}
use mir.Val.{SFits}
use mir.Facts.{to_z-of_z}
use Rattle.number_whole.proofs.laws.Bound.{bits, fits, back, under-pos, under-mul}
use Rattle.number_whole.proofs.Signed.{sum, product}
use Rattle.set_series.specs.Series.{period_in}
use Rattle.set_series.proofs.laws.BoundLaws.{period-under}
use Rattle.set_series.proofs.period_index.Goals as goal

year : (s : goal.Start) → SFits w64 (pos s.args.n)
year s = fits (under-pos s.requires.1) tt

years : (s : goal.Start) → SFits w64 (pos s.args.n *ℤ s.args.theta)
years s = fits (under-mul (under-pos s.requires.1) s.requires.0.theta) tt

-- n·theta, as it is read
years-read : (s : goal.Start) → SFits w64 (bits (pos s.args.n) *ℤ bits s.args.theta)
    × (bits (bits (pos s.args.n) *ℤ bits s.args.theta) ≡ pos s.args.n *ℤ s.args.theta)
years-read s = product (to_z-of_z (year s)) (back s.requires.0.theta tt) refl (years s)

pub overflow_mul-result : goal.overflow_mul-result
overflow_mul-result c = (years-read c).0

pub overflow_add-result : goal.overflow_add-result
unfolding period_in
overflow_add-result c = (sum (back c.requires.0.start tt) (years-read c).1 refl (fits (period-under c.requires.0 c.requires.1) tt)).0

pub returns : goal.returns
unfolding period_in
returns c = (sum (back c.requires.0.start tt) (years-read c).1 refl (fits (period-under c.requires.0 c.requires.1) tt)).1
