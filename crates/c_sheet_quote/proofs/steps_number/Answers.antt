-- `steps_number` meets its contract.
use mathlib.Core.Path.{sym, ap}
use Rattle.c_sheet_quote.specs.SheetQuote.{steps_number}
use Rattle.c_sheet_quote.proofs.steps_number.Goals as goal

pub returns-in-Printed : goal.returns-in-Printed
unfolding steps_number
returns-in-Printed c = sym (ap steps_number c.in-Printed.is)

pub returns-in-Open : goal.returns-in-Open
unfolding steps_number
returns-in-Open c = sym (ap steps_number c.in-Open.is)
