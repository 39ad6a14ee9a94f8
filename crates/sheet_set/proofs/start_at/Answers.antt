-- `start_at` meets its contract: a sheet of AG2014 has no lines of the start and c.
use mathlib.Core.Path.{sym}
use Rattle.sheet_set.specs.code.SetLines.{read_start}
use Rattle.sheet_set.specs.laws.SetLaws.{start-by}
use Rattle.sheet_set.proofs.start_at.Goals as goal

pub returns-in-Ag2014 : goal.returns-in-Ag2014
unfolding read_start
returns-in-Ag2014 c = sym (start-by _ c.in-Ag2014.is)
