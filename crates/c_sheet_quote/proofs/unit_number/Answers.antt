-- `unit_number` meets its contract.
use mathlib.Core.Path.{sym, ap}
use Rattle.c_sheet_quote.specs.SheetQuote.{unit_number}
use Rattle.c_sheet_quote.proofs.unit_number.Goals as goal

pub returns-in-Coarse : goal.returns-in-Coarse
unfolding unit_number
returns-in-Coarse c = sym (ap unit_number c.in-Coarse.is)

pub returns-in-Fine : goal.returns-in-Fine
unfolding unit_number
returns-in-Fine c = sym (ap unit_number c.in-Fine.is)
