-- `days_before` meets its contract: the table's entry.
use mathlib.Core.Path.{ap, ◌∙◌}
use native.Mathlib.Nat.{zero-add}
use native.Mathlib.Omega.{arith}
use Rattle.number_whole.proofs.laws.Table.{listed_at}
use Rattle.quote_calendar.specs.Calendar.{days_before}
use Rattle.quote_calendar.proofs.days_before.Goals as goal

pub returns : goal.returns
returns c =
    let a = c.before.args in
    rw c.table-days.ensures (listed_at (days_before a.leap) 0 0 14 a.month (omega arith) ∙ ap (days_before a.leap) (zero-add a.month))
