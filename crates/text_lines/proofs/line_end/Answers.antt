-- `line_end` meets its contract: the first line feed from the place on ends the line, or the bytes do.
use native.Mathlib.Omega.{arith}
use Rattle.text_lines.proofs.laws.LineLaws.{place-found, place-none}
use Rattle.text_lines.proofs.line_end.Goals as goal

pub returns-in-Some : goal.returns-in-Some
returns-in-Some c = omega (arith, place-found c.args.bytes.now c.args.at c.in-Some.ensures)

pub returns-in-None : goal.returns-in-None
returns-in-None c = omega (arith, place-none c.args.bytes.now c.args.at c.in-None.ensures)
