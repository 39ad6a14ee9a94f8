-- What the law on the force's width asks of the width d of G: with the exponential's slack it is small against the
-- unit.
use Rattle.std.specs.Prelude.{ℕ, suc, ◌+◌, ◌*◌, ◌≤◌}
use Rattle.number_exponential.specs.Grid.{Grid}
use Rattle.number_exponential.proofs.laws.WidthFacts.{slack_upper, slack_lower}

-- thirds of a unit that two ends of e^−z, at places that lie d apart, may differ by
unfoldable pub spread : Grid → ℕ → ℕ
spread g d = 3 * d + (slack_upper g + slack_lower g)

-- its square is less than the unit, in sixths
pub record Fine (g : Grid) (d : ℕ) : Type 0 where
  pub small : spread g d * suc (spread g d) ≤ 6 * g.unit
