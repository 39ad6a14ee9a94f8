-- Dates as numbers and the days of a year (paper 02, E6).
use Rattle.std.specs.Prelude.{Bool, false, not, cond, ◌&&◌, ◌||◌, List, [], ◌∷◌, ℕ, zero, suc, ◌+◌, ◌-◌, ◌/◌, ◌%◌, leb, eqb, ℤ, pos, negsuc, get_or}

-- "`date=` as YYYYMMDD"
unfoldable pub date_year : ℕ → ℕ
date_year z = z / 10000

unfoldable pub date_month : ℕ → ℕ
date_month z = z / 100 % 100

unfoldable pub date_day : ℕ → ℕ
date_day z = z % 100

-- every n-th year
abbrev pub every : ℕ → ℕ → Bool
every n y = eqb (y % n) 0

-- "the Gregorian rule": every fourth year, not every hundredth, but every four-hundredth
unfoldable pub leap_year : ℕ → Bool
leap_year y = every 4 y && (not (every 100 y) || every 400 y)

abbrev pub leap_days : Bool → ℕ
leap_days leap = cond leap 1 0

-- "D is 365 or 366 by the Gregorian rule (2100 has 365)"
unfoldable pub year_days : ℕ → ℕ
year_days y = 365 + leap_days (leap_year y)

-- the days of January to December
unfoldable pub month_lengths : Bool → List ℕ
month_lengths leap = 31 ∷ (28 + leap_days leap) ∷ 31 ∷ 30 ∷ 31 ∷ 30 ∷ 31 ∷ 31 ∷ 30 ∷ 31 ∷ 30 ∷ 31 ∷ []

-- the days of month m, 1 to 12, by whether the year is a leap year; any other number is no month and has none
unfoldable pub month_days : Bool → ℕ → ℕ
month_days leap m = get_or (0 ∷ month_lengths leap) m 0

-- n is at least low and at most high
unfoldable pub between : ℕ → ℕ → ℕ → Bool
between low high n = leb low n && leb n high

-- "a day in that form by the Gregorian rule, which here holds for the years 1000 to 9999"
unfoldable pub is_day : ℤ → Bool
is_day (pos z) =
    between 1000 9999 (date_year z) && (between 1 12 (date_month z)
    && between 1 (month_days (leap_year (date_year z)) (date_month z)) (date_day z))
is_day (negsuc n) = false

-- the days of the months before month m
unfoldable pub days_before : Bool → ℕ → ℕ
days_before leap zero = 0
days_before leap (suc m) = days_before leap m + month_days leap m

-- "d is days since 1 January"
unfoldable pub day_of_year : ℕ → ℕ
day_of_year z = days_before (leap_year (date_year z)) (date_month z) + (date_day z - 1)
