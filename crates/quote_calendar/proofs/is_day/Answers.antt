-- `is_day` meets its contract, by the sign.
use mathlib.Core.Path.{◌≡◌, refl, ◌∙◌}
use mathlib.Core.Bool.{false}
use lib.IntN.{ℤ, pos, negsuc}
use Rattle.std.proofs.Math.Dec.{leb-zero}
use lib.Signed.{le_z}
use mir.Facts.{to_z-of_z}
use Rattle.number_whole.proofs.laws.Clash.{clash}
use Rattle.quote_calendar.specs.Calendar.{is_day}
use Rattle.quote_calendar.proofs.is_day.Goals as goal

below-zero : (z : ℤ) → le_z (pos 0) z ≡ false → false ≡ is_day z
unfolding is_day
below-zero (pos n) e = clash (cc (leb-zero n))
below-zero (negsuc n) e = refl

pub returns-else-date-ge0 : goal.returns-else-date-ge0
returns-else-date-ge0 c =
    let e = rw (to_z-of_z c.ranges.date) at c.if-date-ge0.false in
    c.if-date-ge0.false ∙ below-zero c.args.date e
