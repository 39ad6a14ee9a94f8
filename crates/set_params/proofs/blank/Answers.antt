-- `blank` meets its contract: its value is the definition's, written out.
use mathlib.Core.Path.{refl}
use Rattle.set_params.specs.Set.{blank}
use Rattle.set_params.proofs.blank.Goals as goal

pub returns : goal.returns
unfolding blank
returns c = refl
