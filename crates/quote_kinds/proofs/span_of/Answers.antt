-- `span_of` meets its contract: a span is itself, and of a date its year less the query's.
use mathlib.Core.Path.{◌≡◌}
use mathlib.Core.Bool.{true}
use borrow.Author.Tests.{not-true, not-false}
use lib.Dec.{T}
use lib.IntN.{pos, nat_abs, ◌-ℤ◌}
use mir.Syntax.{w64}
use mir.Val.{SFits}
use mir.Facts.{to_z-of_z}
use Rattle.number_whole.proofs.laws.Bound.{under-pos, under-sub, fits}
use Rattle.quote_calendar.specs.Calendar.{is_day, date_year}
use Rattle.quote_calendar.specs.laws.Days.{day-year}
use Rattle.quote_kinds.specs.Kinds.{span_of}
use Rattle.quote_kinds.proofs.span_of.Goals as goal

pub returns-then-not-rule : goal.returns-then-not-rule
unfolding span_of
returns-then-not-rule c = rw (not-true c.before.before.args.rule.dated c.if-not-rule.true) (to_z-of_z c.before.before.ranges.term)

dated : (c : goal.Else-not-rule) → c.before.before.args.rule.dated ≡ true
dated c = not-false c.before.before.args.rule.dated c.if-not-rule.false

-- the term is a day
is-day : (c : goal.Else-not-rule) → T (is_day c.before.before.args.term)
is-day c = c.before.before.requires.1 (rw (dated c) tt)

pub date_year-requires : goal.date_year-requires
date_year-requires c = rw (to_z-of_z c.before.before.ranges.term) (is-day c)

-- its year, as it is read
year-is : (c : goal.After-date_year) → c.date_year.result ≡ date_year (nat_abs c.before.before.before.args.term)
year-is c = rw (to_z-of_z c.before.before.before.ranges.term) at c.date_year.ensures

year-fits : (c : goal.After-date_year) → SFits w64 (pos c.date_year.result)
year-fits c =
    let s = c.before.before.before in
    fits (under-pos {k = 9999} (rw (year-is c) (day-year s.args.term (is-day c.before)).1)) tt

difference : (c : goal.After-date_year) → let s = c.before.before.before in
    SFits w64 (pos c.date_year.result -ℤ s.args.year)
difference c =
    let s = c.before.before.before in
    fits (under-sub (under-pos {k = 9999} (rw (year-is c) (day-year s.args.term (is-day c.before)).1)) s.requires.0) tt

pub overflow_sub-result : goal.overflow_sub-result
overflow_sub-result c = let s = c.before.before.before in rw (to_z-of_z (year-fits c), to_z-of_z s.ranges.year) (difference c)

pub returns : goal.returns
unfolding span_of
returns c =
    let s = c.before.before.before in
    rw (dated c.before, to_z-of_z (year-fits c), to_z-of_z s.ranges.year, to_z-of_z (difference c), year-is c)

pub overflow_cast-result : goal.overflow_cast-result
overflow_cast-result c = year-fits c
