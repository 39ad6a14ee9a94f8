-- What the code's contracts say beside the definitions: the fraction that a part of a year is.
use Rattle.std.specs.Prelude.{◌≡◌}
use Rattle.number_fraction.specs.Ratio.{Ratio}
use Rattle.quote_paths.specs.declared.Part.{Part}

pub record IsPart (r : Part) (part : Ratio) : Type 0 where
  pub days : r.days ≡ part.num
  pub whole : r.whole ≡ part.den
