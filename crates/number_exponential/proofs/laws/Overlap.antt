-- What it means that the grid's two ends and an order's interval overlap.
use Rattle.number_fraction.specs.Ratio.{Ratio, ◌≤/◌}
use Rattle.number_exponential.specs.Grid.{Grid, in_units}
use Rattle.number_exponential.specs.declared.Ends.{Ends}

-- neither interval lies wholly beyond the other
pub record Overlap (g : Grid) (ends : Ends) (least most : Ratio) : Type 0 where
  pub below : in_units g ends.lower ≤/ most
  pub above : least ≤/ in_units g ends.upper
