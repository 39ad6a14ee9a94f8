-- From a log force in range to z, and from p to q, on a grid (paper 01, "The grid").
use Rattle.std.specs.Prelude.{◌-◌}
use Rattle.number_whole.specs.Parts.{below}
use Rattle.number_exponential.specs.Grid.{Grid}
use Rattle.number_whole.specs.declared.SignedEnds.{SignedEnds}
use Rattle.number_exponential.specs.declared.Ends.{Ends}

-- −m of a log force that is in range, as z with two ends
unfoldable pub negated : SignedEnds → Ends
negated m = record { lower = below m.upper; upper = below m.lower }

-- "p = exponential of −force; q = 10^9 − p, ends exchanged."
unfoldable pub death_of : Grid → Ends → Ends
death_of g p = record { lower = g.unit - p.upper; upper = g.unit - p.lower }
