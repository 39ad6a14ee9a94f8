-- What the laws ask of a grid, of that of 10^-9 by name.
use Rattle.number_exponential.specs.Units.{billionths, grid_of}
use Rattle.number_exponential.specs.declared.GridUnit.TheVariants.{Coarse}
use Rattle.number_exponential.proofs.laws.Facts.{Sound}
use Rattle.number_exponential.proofs.laws.GridFacts.{unit-sound}

abbrev pub billionths-sound : Sound billionths
unfolding grid_of
billionths-sound = unit-sound Coarse
