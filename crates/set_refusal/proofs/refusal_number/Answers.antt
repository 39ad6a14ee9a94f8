-- `refusal_number` meets its contract, case by case.
use borrow.Author.Rules.{rules}
use mathlib.Core.Path.{sym, ap}
use Rattle.set_refusal.specs.Refusals.{refusal_number}
use Rattle.set_refusal.proofs.refusal_number.Goals as goal

pub returns-in-Accepted : goal.returns-in-Accepted
unfolding refusal_number
returns-in-Accepted c = sym (ap refusal_number c.in-Accepted.is)

pub returns-in-Malformed : goal.returns-in-Malformed
unfolding refusal_number
returns-in-Malformed c = sym (ap refusal_number c.in-Malformed.is)

pub returns-in-OutOfLimits : goal.returns-in-OutOfLimits
unfolding refusal_number
returns-in-OutOfLimits c = sym (ap refusal_number c.in-OutOfLimits.is)

pub returns-in-NoSuchAge : goal.returns-in-NoSuchAge
unfolding refusal_number
returns-in-NoSuchAge c = sym (ap refusal_number c.in-NoSuchAge.is)

pub returns-in-NoSuchYear : goal.returns-in-NoSuchYear
unfolding refusal_number
returns-in-NoSuchYear c = sym (ap refusal_number c.in-NoSuchYear.is)

pub returns-in-NoSuchSpan : goal.returns-in-NoSuchSpan
unfolding refusal_number
returns-in-NoSuchSpan c = sym (ap refusal_number c.in-NoSuchSpan.is)

pub returns-in-LogForceOutOfRange : goal.returns-in-LogForceOutOfRange
unfolding refusal_number
returns-in-LogForceOutOfRange c = sym (ap refusal_number c.in-LogForceOutOfRange.is)

pub returns-in-BufferTooShort : goal.returns-in-BufferTooShort
unfolding refusal_number
returns-in-BufferTooShort c = sym (ap refusal_number c.in-BufferTooShort.is)

pub returns-in-NoSuchRate : goal.returns-in-NoSuchRate
unfolding refusal_number
returns-in-NoSuchRate c = sym (ap refusal_number c.in-NoSuchRate.is)

pub returns-in-MalformedColumn : goal.returns-in-MalformedColumn
unfolding refusal_number
returns-in-MalformedColumn c = sym (ap refusal_number c.in-MalformedColumn.is)

pub returns-in-NoSuchDate : goal.returns-in-NoSuchDate
unfolding refusal_number
returns-in-NoSuchDate c = sym (ap refusal_number c.in-NoSuchDate.is)

pub returns-in-StartsDiffer : goal.returns-in-StartsDiffer
unfolding refusal_number
returns-in-StartsDiffer c = sym (ap refusal_number c.in-StartsDiffer.is)
