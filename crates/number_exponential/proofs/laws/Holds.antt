-- The exponential on a grid, read as fractions, holds every order of the exact one: at a point, and at a z with two ends
-- that overlaps an order's interval of z.
use Rattle.std.specs.Prelude.{ℕ}
use Rattle.std.proofs.Common.{arith}
use Rattle.number_fraction.specs.Ratio.{Ratio, ◌≤/◌}
use Rattle.number_fraction.proofs.laws.RatioLaws.{≤/-trans}
use Rattle.number_taylor.specs.Order.{order_lower, order_upper}
use Rattle.number_taylor.proofs.laws.OrderLaws.{lower-antitone, upper-antitone}
use Rattle.number_exponential.specs.Grid.{Grid, in_units}
use Rattle.number_exponential.specs.declared.Ends.{Ends}
use Rattle.number_exponential.specs.Exponential.{exp_lower, exp_upper, exp_between}
use Rattle.number_exponential.proofs.laws.Facts.{Sound}
use Rattle.number_exponential.proofs.laws.Overlap.{Overlap}
use Rattle.number_exponential.proofs.laws.Soundness.{lower-sound, upper-sound}

module _ (g : Grid) (s : Sound g) where
  -- the lower end at z is at most every order's upper end
  pub lower-holds : (z j : ℕ) → in_units g (exp_lower g z) ≤/ order_upper (in_units g z) j
  unfolding in_units order_upper
  lower-holds z j = record { cross = omega (arith, lower-sound g s z j) }

  -- the upper end at z is at least every order's lower end
  pub upper-holds : (z j : ℕ) → order_lower (in_units g z) j ≤/ in_units g (exp_upper g z)
  unfolding in_units order_lower
  upper-holds z j = record { cross = omega (arith, upper-sound g s z j) }

  -- where the two ends of z overlap an order's interval of z, those of the exponential overlap the order's
  pub exp-overlap : (z : Ends) (least most : Ratio) (j : ℕ) → Overlap g z least most
      → Overlap g (exp_between g z) (order_lower most j) (order_upper least j)
  unfolding exp_between
  exp-overlap z least most j o =
      record {
        below = ≤/-trans (lower-holds z.upper j) (upper-antitone j o.above);
        above = ≤/-trans (lower-antitone j o.below) (upper-holds z.lower j);
      }
