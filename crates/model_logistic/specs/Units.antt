-- An order's interval: two signed fractions between which a value lies.
use Rattle.number_fraction.specs.Fraction.{Fraction}

pub record Interval : Type 0 where
  pub least : Fraction
  pub most : Fraction
