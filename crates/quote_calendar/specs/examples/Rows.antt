-- Single dates, by computation.
use Rattle.std.specs.Prelude.{◌≡◌, refl, true, false, suc, pos, negsuc}
use Rattle.quote_calendar.specs.Calendar.{date_year, date_month, date_day, leap_year, year_days, month_lengths, month_days, between, is_day, days_before, day_of_year}

parts : (date_year 20410315 ≡ 2041) × (date_month 20410315 ≡ 3) × (date_day 20410315 ≡ 15)
unfolding date_year date_month date_day
parts = (refl, refl, refl)

-- 29 February of a four-hundredth, a hundredth, a fourth and another year
leap-days : (is_day (pos 20000229) ≡ true) × (is_day (pos 21000229) ≡ false) × (is_day (pos 20960229) ≡ true)
    × (is_day (pos 20970229) ≡ false)
unfolding date_year date_month date_day leap_year month_lengths month_days between is_day
leap-days = (refl, refl, refl, refl)

-- the first and the last day of all, and their neighbours among the years
outermost : (is_day (pos 10000101) ≡ true) × (is_day (pos 99991231) ≡ true) × (is_day (pos 9991231) ≡ false)
    × (is_day (pos 100000101) ≡ false)
unfolding date_year date_month date_day leap_year month_lengths month_days between is_day
outermost = (refl, refl, refl, refl)

-- month 0, month 13, day 0, a day past the month's last, and a number below zero
no-days : (is_day (pos 20200010) ≡ false) × (is_day (pos 20201301) ≡ false) × (is_day (pos 20200100) ≡ false)
    × (is_day (pos 20200431) ≡ false) × (is_day (negsuc 20200101) ≡ false)
unfolding date_year date_month date_day leap_year month_lengths month_days between is_day
no-days = (refl, refl, refl, refl, refl)

days-of-years : (year_days 2000 ≡ 366) × (year_days 2096 ≡ 366) × (year_days 2100 ≡ 365) × (year_days 2104 ≡ 366)
unfolding leap_year year_days
days-of-years = (refl, refl, refl, refl)

-- 1 January, 15 March of a common year, and 1 March of a leap year
since-january : (day_of_year 20410101 ≡ 0) × (day_of_year 20410315 ≡ 73) × (day_of_year 20960301 ≡ 60)
unfolding date_year date_month date_day leap_year month_lengths month_days days_before day_of_year
since-january = (refl, refl, refl)

-- 31 December
last-days : (suc (day_of_year 20961231) ≡ year_days 2096) × (suc (day_of_year 21001231) ≡ year_days 2100)
unfolding date_year date_month date_day leap_year year_days month_lengths month_days days_before day_of_year
last-days = (refl, refl)
