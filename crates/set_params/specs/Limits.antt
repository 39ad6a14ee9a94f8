-- "Units and largest size either side of zero": A, alpha: 10^-9; 40,000,000,000. B, beta: 10^-8; 10,000,000.
-- a: 10^-8; 100,000,000. theta: 10^-9; 10,000,000,000. K, and also K + 171·theta: 10^-9; 500,000,000,000.
-- k: 10^-9; 50,000,000,000. c: "at most 10,000,000,000 either side in units of 10^-9".
use Rattle.std.specs.Prelude.{ℕ, Bool, leb, ℤ, nat_abs}

abbrev pub level_limit : ℕ
level_limit = 40000000000

abbrev pub slope_limit : ℕ
slope_limit = 10000000

abbrev pub a_limit : ℕ
a_limit = 100000000

abbrev pub theta_limit : ℕ
theta_limit = 10000000000

abbrev pub period_limit : ℕ
period_limit = 500000000000

abbrev pub kappa_limit : ℕ
kappa_limit = 50000000000

abbrev pub constant_limit : ℕ
constant_limit = 10000000000

-- "a start year from 2013 to 2033"
abbrev pub first_start : ℕ
first_start = 2013

abbrev pub last_start : ℕ
last_start = 2033

-- the years from the start, 2013 in an AG2014 sheet, to the first year of a quote, 2014, to the last one of a survival or an
-- expectancy, 2064, and to the last one of q, 2184
abbrev pub first_years : ℕ
first_years = 1

abbrev pub quote_years : ℕ
quote_years = 51

abbrev pub last_years : ℕ
last_years = 171

-- z is at most k either side of zero
abbrev pub within : ℕ → ℤ → Bool
within k z = leb (nat_abs z) k
