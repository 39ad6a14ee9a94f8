-- `leap_year` meets its contract: the rule's three tests in their order.
use borrow.Author.Tests.{eq-eqb, ne_eqb}
use Rattle.quote_calendar.specs.Calendar.{leap_year}
use Rattle.quote_calendar.proofs.leap_year.Goals as goal

pub returns-then-year-ne0 : goal.returns-then-year-ne0
unfolding leap_year
returns-then-year-ne0 c = rw (eq-eqb _ 0 c.if-year-eq0.true, ne_eqb _ 0 c.if-year-ne0.true)

pub returns-else-year-ne0 : goal.returns-else-year-ne0
unfolding leap_year
returns-else-year-ne0 c = rw (eq-eqb _ 0 c.if-year-eq0.true, eq-eqb _ 0 c.if-year-ne0.false)

pub returns-else-year-eq0 : goal.returns-else-year-eq0
unfolding leap_year
returns-else-year-eq0 c = rw (ne_eqb _ 0 c.if-year-eq0.false)
