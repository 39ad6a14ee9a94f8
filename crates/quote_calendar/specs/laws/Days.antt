-- In a year the days in their order have d = 0, 1, .. D − 1: a later day has a greater d (`day-order`), so that no day has another's
-- (`day-one`), each d is below D (`day-below`), and none is left out (`day-at`).
use Rattle.std.specs.Prelude.{◌≡◌, refl, Bool, true, false, ◌⊎◌, ◌∷◌, T, leb, ℤ, pos, negsuc, nat_abs}
use Rattle.std.proofs.Common.{ap, sym, inl, inr, ⊎_elim, add-one, leb→le, le→leb}
use Prim.Native.Nat.{ℕ, zero, suc, ◌+◌, ◌-◌, ◌*◌, ◌≤◌, ◌<◌}
use Rattle.std.proofs.Math.Decide.{dec_lt}
use native.Mathlib.Omega.{arith}
use Rattle.std.proofs.Math.Facts.{and_yes, yes_and}
use Rattle.number_whole.proofs.laws.Table.{at}
use Rattle.quote_calendar.specs.Calendar.{
  date_year,
  date_month,
  date_day,
  leap_year,
  leap_days,
  year_days,
  month_lengths,
  month_days,
  between,
  is_day,
  days_before,
  day_of_year,
}

-- ---- a day's parts: year, month and day of the month within their limits

pub record Parts (z : ℕ) : Type 0 where
  pub year-least : 1000 ≤ date_year z
  pub year-most : date_year z ≤ 9999
  pub month-least : 1 ≤ date_month z
  pub month-most : date_month z ≤ 12
  pub day-least : 1 ≤ date_day z
  pub day-most : date_day z ≤ month_days (leap_year (date_year z)) (date_month z)

pub tested : (low high n : ℕ) → T (between low high n) → (low ≤ n) × (n ≤ high)
unfolding between
tested low high n t = let k = and_yes (leb low n) (leb n high) t in (leb→le low n k.0, leb→le n high k.1)

test : {low high n : ℕ} → low ≤ n → n ≤ high → T (between low high n)
unfolding between
test {low} {high} {n} h k = yes_and (leb low n) (leb n high) (le→leb low n h) (le→leb n high k)

pub day-parts : (z : ℕ) → T (is_day (pos z)) → Parts z
unfolding is_day
day-parts z t =
    let most = month_days (leap_year (date_year z)) (date_month z) in
    let rest = and_yes (between 1000 9999 (date_year z)) _ t in
    let last = and_yes (between 1 12 (date_month z)) (between 1 most (date_day z)) rest.1 in
    let y = tested 1000 9999 (date_year z) rest.0 in
    let m = tested 1 12 (date_month z) last.0 in
    let d = tested 1 most (date_day z) last.1 in
    record {
      year-least = y.0;
      year-most = y.1;
      month-least = m.0;
      month-most = m.1;
      day-least = d.0;
      day-most = d.1;
    }

pub parts-day : {z : ℕ} → Parts z → T (is_day (pos z))
unfolding is_day
parts-day {z} p =
    let most = month_days (leap_year (date_year z)) (date_month z) in
    yes_and (between 1000 9999 (date_year z)) _ (test p.year-least p.year-most)
    (yes_and (between 1 12 (date_month z)) (between 1 most (date_day z)) (test p.month-least p.month-most)
    (test p.day-least p.day-most))

-- a day is not below zero, so that what is shown of natural numbers serves
pub day-natural : (z : ℤ) → T (is_day z) → pos (nat_abs z) ≡ z
unfolding is_day
day-natural (pos n) t = refl
day-natural (negsuc n) t = absurd t

pub day-plain : (z : ℤ) → T (is_day z) → T (is_day (pos (nat_abs z)))
day-plain z t = rw (day-natural z t) t

pub day-year : (z : ℤ) → T (is_day z) → (1000 ≤ date_year (nat_abs z)) × (date_year (nat_abs z) ≤ 9999)
day-year z t = let p = day-parts (nat_abs z) (day-plain z t) in (p.year-least, p.year-most)

leap-most : (leap : Bool) → leap_days leap ≤ 1
leap-most true = omega arith
leap-most false = omega arith

pub year-days : (y : ℕ) → (0 < year_days y) × (year_days y ≤ 366)
unfolding year_days
year-days y = (omega arith, omega (arith, leap-most (leap_year y)))

-- ---- the months of a year, by whether it is a leap year

month-most : (leap : Bool) (m : ℕ) → m ≤ 12 → month_days leap m ≤ 31
unfolding month_lengths month_days
month-most true m h = leb→le _ 31 (at (λ (k n : ℕ). leb n 31) 0 (0 ∷ month_lengths true) tt m (omega arith))
month-most false m h = leb→le _ 31 (at (λ (k n : ℕ). leb n 31) 0 (0 ∷ month_lengths false) tt m (omega arith))

pub before-next : (leap : Bool) (m : ℕ) → days_before leap (m + 1) ≡ days_before leap m + month_days leap m
unfolding days_before
before-next leap m = rw (add-one m)

year-before : (leap : Bool) → days_before leap 13 ≡ 365 + leap_days leap
unfolding month_lengths month_days days_before
year-before true = refl
year-before false = refl

-- a day of one of the months below a number of them that has d = k
record MonthDay (leap : Bool) (months k : ℕ) : Type 0 where
  month : ℕ
  day : ℕ
  month-least : 1 ≤ month
  month-most : month < months
  day-least : 1 ≤ day
  day-most : day ≤ month_days leap month
  is : days_before leap month + (day - 1) ≡ k

month-wider : {leap : Bool} {n k : ℕ} → MonthDay leap n k → MonthDay leap (suc n) k
month-wider d =
    record {
      month = d.month;
      day = d.day;
      month-least = d.month-least;
      month-most = omega arith;
      day-least = d.day-least;
      day-most = d.day-most;
      is = d.is;
    }

module _ (leap : Bool) where
  -- the months before a later one include the earlier month
  before-later : (m n : ℕ) → m < n → days_before leap m + month_days leap m ≤ days_before leap n
  unfolding days_before
  before-later m zero h = absurd (omega arith)
  before-later m (suc n) h =
      elim (dec_lt m n) [
        | yes l ↦ omega (arith, before-later m n l)
        | no l ↦ let e : m ≡ n = omega arith in rw e (omega arith)
      ]

  -- a month with days is not month 0
  none_before : {m : ℕ} → 0 < month_days leap m → 1 ≤ m
  unfolding month_days
  none_before {m = zero} h = absurd (omega arith)
  none_before {m = suc m} h = omega arith

  month-day : (n k : ℕ) → k < days_before leap n → MonthDay leap n k
  unfolding days_before
  month-day zero k h = absurd (omega arith)
  month-day (suc n) k h =
      elim (dec_lt k (days_before leap n)) [
        | yes l ↦ month-wider (month-day n k l)
        | no l ↦ record {
          month = n;
          day = suc (k - days_before leap n);
          month-least = none_before {m = n} (omega arith);
          month-most = omega arith;
          day-least = omega arith;
          day-most = omega arith;
          is = omega arith;
        }
      ]

-- ---- the days of a year

-- every d is below D
pub day-below : (z : ℕ) → T (is_day (pos z)) → day_of_year z < year_days (date_year z)
unfolding day_of_year year_days
day-below z t =
    let p = day-parts z t in
    let leap = leap_year (date_year z) in
    omega (arith, before-later leap (date_month z) 13 (omega arith), year-before leap)

-- of two dates of a year the later has a later month, or the same month and a later day
later : (z z' : ℕ) → date_year z ≡ date_year z' → z < z'
    → (date_month z < date_month z') ⊎ ((date_month z ≡ date_month z') × (date_day z < date_day z'))
unfolding date_year date_month date_day
later z z' e h = elim (dec_lt (date_month z) (date_month z')) [ yes l ↦ inl l | no l ↦ inr (omega arith, omega arith) ]

-- a later day of a year has a greater d
pub day-order : (z z' : ℕ) → T (is_day (pos z)) → T (is_day (pos z')) → date_year z ≡ date_year z' → z < z' → day_of_year z < day_of_year z'
unfolding day_of_year
day-order z z' t t' e h =
    let p = day-parts z t in
    let p' = day-parts z' t' in
    let leap = leap_year (date_year z) in
    rw (← e)
    (⊎_elim
    (λ l. omega (arith, before-later leap (date_month z) (date_month z') l))
    (λ l. omega (arith, ap (days_before leap) l.0))
    (later z z' e h))

-- no day of a year has another's d
pub day-one : (z z' : ℕ) → T (is_day (pos z)) → T (is_day (pos z')) → date_year z ≡ date_year z' → day_of_year z ≡ day_of_year z' → z ≡ z'
day-one z z' t t' e d =
    elim (dec_lt z z') [
      | yes l ↦ absurd (omega (arith, day-order z z' t t' e l))
      | no l ↦ elim (dec_lt z' z) [ yes k ↦ absurd (omega (arith, day-order z' z t' t (sym e) k)) | no k ↦ omega arith ]
    ]

-- a day of year y that has d = k
pub record DayAt (y k : ℕ) : Type 0 where
  pub date : ℕ
  pub is-day : T (is_day (pos date))
  pub year : date_year date ≡ y
  pub day : day_of_year date ≡ k

-- a date by its parts
written : (y m d : ℕ) → m < 100 → d < 100 → let z = y * 10000 + m * 100 + d in
    (date_year z ≡ y) × (date_month z ≡ m) × (date_day z ≡ d)
unfolding date_year date_month date_day
written y m d h k = (omega arith, omega arith, omega arith)

-- no d below D is left out
pub day-at : (y k : ℕ) → 1000 ≤ y → y ≤ 9999 → k < year_days y → DayAt y k
unfolding day_of_year year_days
day-at y k least most h =
    let leap = leap_year y in
    let a = month-day leap 13 k (omega (arith, year-before leap)) in
    let w = written y a.month a.day (omega arith) (omega (arith, month-most leap a.month (omega arith))) in
    record {
      date = y * 10000 + a.month * 100 + a.day;
      is-day = parts-day (record {
        year-least = rw w.0 least;
        year-most = rw w.0 most;
        month-least = rw w.1 a.month-least;
        month-most = omega arith;
        day-least = rw w.2 a.day-least;
        day-most = rw (w.0, w.1, w.2) a.day-most;
      });
      year = w.0;
      day = rw (w.0, w.1, w.2) a.is;
    }
