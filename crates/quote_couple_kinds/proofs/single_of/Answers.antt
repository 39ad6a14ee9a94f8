-- `single_of` meets its contract, case by case.
use borrow.Author.Rules.{rules}
use mathlib.Core.Path.{sym, ap}
use Rattle.quote_couple_kinds.specs.CoupleKinds.{single_of}
use Rattle.quote_couple_kinds.proofs.single_of.Goals as goal

pub returns-in-JointLife : goal.returns-in-JointLife
unfolding single_of
returns-in-JointLife c = sym (ap single_of c.in-JointLife.is)

pub returns-in-LastSurvivor : goal.returns-in-LastSurvivor
unfolding single_of
returns-in-LastSurvivor c = sym (ap single_of c.in-LastSurvivor.is)

pub returns-in-JointExpectancy : goal.returns-in-JointExpectancy
unfolding single_of
returns-in-JointExpectancy c = sym (ap single_of c.in-JointExpectancy.is)

pub returns-in-LastExpectancy : goal.returns-in-LastExpectancy
unfolding single_of
returns-in-LastExpectancy c = sym (ap single_of c.in-LastExpectancy.is)
