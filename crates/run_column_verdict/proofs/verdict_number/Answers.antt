-- `verdict_number` meets its contract, case by case.
use mathlib.Core.Path.{sym, ap}
use Rattle.run_column_verdict.specs.ColumnVerdict.{verdict_number}
use Rattle.run_column_verdict.proofs.verdict_number.Goals as goal

pub returns-in-Right : goal.returns-in-Right
unfolding verdict_number
returns-in-Right c = sym (ap verdict_number c.in-Right.is)

pub returns-in-Wrong : goal.returns-in-Wrong
unfolding verdict_number
returns-in-Wrong c = sym (ap verdict_number c.in-Wrong.is)

pub returns-in-Open : goal.returns-in-Open
unfolding verdict_number
returns-in-Open c = sym (ap verdict_number c.in-Open.is)
