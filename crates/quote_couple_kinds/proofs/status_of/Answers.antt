-- `status_of` meets its contract, case by case.
use borrow.Author.Rules.{rules}
use mathlib.Core.Path.{sym, ap}
use Rattle.quote_couple_kinds.specs.code.Code.{status_of}
use Rattle.quote_couple_kinds.proofs.status_of.Goals as goal

pub returns-in-JointLife : goal.returns-in-JointLife
unfolding status_of
returns-in-JointLife c = sym (ap status_of c.in-JointLife.is)

pub returns-in-LastSurvivor : goal.returns-in-LastSurvivor
unfolding status_of
returns-in-LastSurvivor c = sym (ap status_of c.in-LastSurvivor.is)

pub returns-in-JointExpectancy : goal.returns-in-JointExpectancy
unfolding status_of
returns-in-JointExpectancy c = sym (ap status_of c.in-JointExpectancy.is)

pub returns-in-LastExpectancy : goal.returns-in-LastExpectancy
unfolding status_of
returns-in-LastExpectancy c = sym (ap status_of c.in-LastExpectancy.is)
