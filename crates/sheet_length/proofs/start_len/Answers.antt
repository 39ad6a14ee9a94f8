-- `start_len` meets its contract: no lines in a sheet of AG2014, else two of at most 23 bytes each.
use mathlib.Core.Path.{sym, ap, ◌∙◌}
use native.Mathlib.Omega.{arith}
use lib.ListN.{length}
use mir.Facts.{to_z-of_z}
use Rattle.sheet_length.specs.code.Parts.{line_length}
use Rattle.sheet_length.specs.laws.PartsLaws.{no_start, start-length}
use Rattle.sheet_length.proofs.start_len.Goals as goal

pub returns-in-Ag2014 : goal.returns-in-Ag2014
returns-in-Ag2014 c = sym (ap length (no_start _ _ c.in-Ag2014.is))

pub returns-in-LiLee : goal.returns-in-LiLee
returns-in-LiLee c =
    let start = c.line_len.ensures.0 ∙ ap (line_length 5) (to_z-of_z c.ranges.start) in
    let constant = c.line_len-in-LiLee.ensures.0 ∙ ap (line_length 1) (to_z-of_z c.ranges.c) in
    omega (arith, start, constant, start-length c.args.start c.args.c c.in-LiLee.is)
