-- `printed_number` meets its contract.
use mathlib.Core.Path.{sym, ap}
use Rattle.c_sheet_quote.specs.SheetQuote.{printed_number}
use Rattle.c_sheet_quote.proofs.printed_number.Goals as goal

pub returns-in-Printed : goal.returns-in-Printed
unfolding printed_number
returns-in-Printed c = sym (ap printed_number c.in-Printed.is)

pub returns-in-Open : goal.returns-in-Open
unfolding printed_number
returns-in-Open c = sym (ap printed_number c.in-Open.is)
