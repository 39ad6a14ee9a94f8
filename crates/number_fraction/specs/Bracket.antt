-- Two fractions between which a value lies, as an order of the exact value gives them.
use Rattle.number_fraction.specs.Ratio.{Ratio}

pub record Bracket : Type 0 where
  pub least : Ratio
  pub most : Ratio
