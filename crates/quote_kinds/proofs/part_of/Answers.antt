-- `part_of` meets its contract: of a date its days since 1 January and those of its year, and of a span none.
use mathlib.Core.Path.{◌≡◌, refl, ap, ◌∙◌}
use mathlib.Core.Bool.{true}
use borrow.Author.Tests.{not-true, not-false}
use lib.Dec.{T}
use mir.Facts.{to_z-of_z}
use Rattle.number_fraction.specs.Ratio.{whole/}
use Rattle.quote_calendar.specs.Calendar.{is_day, year_days}
use Rattle.quote_kinds.specs.Kinds.{date_part, part_of}
use Rattle.quote_kinds.proofs.part_of.Goals as goal

pub returns-then-not-rule : goal.returns-then-not-rule
unfolding part_of whole/
returns-then-not-rule c = rw (not-true c.before.before.args.rule.dated c.if-not-rule.true) (record { days = refl; whole = refl })

dated : (c : goal.Else-not-rule) → c.before.before.args.rule.dated ≡ true
dated c = not-false c.before.before.args.rule.dated c.if-not-rule.false

-- the term is a day
is-day : (c : goal.Else-not-rule) → T (is_day c.before.before.args.term)
is-day c = c.before.before.requires (rw (dated c) tt)

pub day_of_year-requires : goal.day_of_year-requires
day_of_year-requires c = rw (to_z-of_z c.before.before.ranges.term) (is-day c)

pub date_year-requires : goal.date_year-requires
date_year-requires c = rw (to_z-of_z c.before.before.before.ranges.term) (is-day c.before)

pub returns : goal.returns
unfolding part_of date_part
returns c =
    let y = c.before in
    let d = y.before in
    let e = d.before in
    let f = to_z-of_z e.before.before.ranges.term in
    rw (dated e)
    (record {
      days = rw f at d.day_of_year.ensures;
      whole = c.year_days.ensures ∙ ap year_days (rw f at y.date_year.ensures);
    })
