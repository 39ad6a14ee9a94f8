-- `age_number` meets its contract: an age is far below 2⁶³.
use borrow.Author.Rules.{rules}
use native.Mathlib.Omega.{arith}
use mir.Syntax.{w64}
use mir.Facts.{to_z_pos}
use Rattle.sheet_line_writer.proofs.age_number.Goals as goal

pub returns : goal.returns
returns c = to_z_pos w64 (omega arith)
