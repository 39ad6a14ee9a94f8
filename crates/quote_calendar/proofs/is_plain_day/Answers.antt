-- `is_plain_day` meets its contract: the tests of year, month and day in their order, up to the first that fails.
use Rattle.std.proofs.Common.{◌≡◌, ℕ, Bool, true, sym, ap, ◌∙◌}
use Rattle.number_whole.proofs.laws.Clash.{clash}
use Rattle.quote_calendar.specs.Calendar.{date_year, date_month, date_day, month_days, between, is_day}
use Rattle.quote_calendar.specs.laws.Days.{tested}
use Rattle.quote_calendar.proofs.is_plain_day.Goals as goal
use Rattle.quote_calendar.proofs.is_plain_day.Goals.{After-leap_year, then-between, else-between}

-- both tests passed
both-in : (c : After-leap_year) → (between 1000 9999 (date_year c.args.z) ≡ true) × (between 1 12 (date_month c.args.z) ≡ true)
unfolding date_year date_month
both-in c =
    elim c.if-between.branch [
      | then-between w ↦ (sym c.between.ensures ∙ w.if-between.true, sym w.between-then-between.ensures ∙ sym w.value-is ∙ c.if-between-2.true)
      | else-between w ↦ clash (cc w.if-between.false)
    ]

pub month_days-requires : goal.month_days-requires
unfolding date_month
month_days-requires c = (tested 1 12 (date_month c.args.z) (rw ((both-in c).1) tt)).1

pub returns-then-between-2 : goal.returns-then-between-2
unfolding is_day date_year date_month date_day
returns-then-between-2 c =
    let z = c.args.z in
    let both = both-in c.before.before in
    let most = c.month_days.ensures ∙ ap (λ (leap : Bool). month_days leap (date_month z)) c.leap_year.ensures in
    rw (both.0, both.1) (c.between-then-between-2.ensures ∙ ap (λ (n : ℕ). between 1 n (date_day z)) most)

pub returns-else-between-2 : goal.returns-else-between-2
unfolding is_day date_year date_month date_day
returns-else-between-2 c =
    elim c.if-between.branch [
      | then-between w ↦ rw (c.if-between-2.false, sym c.between.ensures ∙ w.if-between.true, sym w.between-then-between.ensures ∙ sym w.value-is ∙ c.if-between-2.false)
      | else-between w ↦ rw (c.if-between-2.false, sym c.between.ensures ∙ w.if-between.false)
    ]
