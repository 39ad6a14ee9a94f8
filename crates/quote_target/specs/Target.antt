-- The year a target is reached (paper 02, E9): "for a given age and target in units of 10^-9, find the earliest of the 51 quote
-- years in which the period expectancy reaches the target"; and what the answer says of the exact values.
use Rattle.std.specs.Prelude.{◌≡◌, Bool, true, cond, ◌&&◌, [], ◌∷◌, ℕ, zero, suc, ◌-◌, ◌≤◌, ◌<◌, eqb, ℤ, pos, negsuc, ◌+ℤ◌, Result, Ok, Err}
use Rattle.std.specs.Int.Signed.{le_z}
use Rattle.number_exponential.specs.Units.{billionths}
use Rattle.number_exponential.specs.Grid.{in_units}
use Rattle.number_exponential.specs.declared.Ends.{Ends}
use Rattle.number_exponential.specs.declared.GridUnit.TheVariants.{Coarse}
use Rattle.number_exact.specs.Value.{Exact, AtLeast}
use Rattle.set_params.specs.declared.Params.{Params}
use Rattle.set_params.specs.Limits.{first_years, quote_years}
use Rattle.set_refusal.specs.declared.Refusal.{Refusal}
use Rattle.set_refusal.specs.declared.Refusal.TheVariants.{OutOfLimits, NoSuchAge, LogForceOutOfRange}
use Rattle.set_refusal.specs.Refusals.{refusal_number}
use Rattle.set_limits.specs.InLimits.{in_limits}
use Rattle.quote_paths.specs.Path.{path_in_range}
use Rattle.quote_kinds.specs.declared.Kind.TheVariants.{PeriodExpectancy}
use Rattle.quote_table_tests.specs.TableTests.{age_in_table, first_failed}
use Rattle.quote.specs.Quote.{query_path, query_ends, exact_query}
use Rattle.quote_target.specs.declared.TargetYear.{TargetYear}
use Rattle.quote_target.specs.declared.TargetYear.TheVariants.{Reached, Open, Never}

-- the period expectancy at an age in the year n after the start, of which "E9 still looks at coarse ends" (E11), and whether the
-- cells that it needs are in range
unfoldable pub period_ends : Params → ℤ → ℕ → Ends
period_ends p age n = query_ends p PeriodExpectancy age (p.start +ℤ pos n) (pos 0) Coarse

unfoldable pub period_in_range : Params → ℤ → ℕ → Bool
period_in_range p age n = path_in_range billionths p (query_path p.start PeriodExpectancy age (p.start +ℤ pos n) (pos 0))

-- an end is at or above the target
unfoldable pub reaches : ℤ → ℕ → Bool
reaches target e = le_z target (pos e)

-- "Look at the first year whose upper end does. If its lower end does too, that year is the answer; otherwise the answer is open."
-- A year whose upper end does not leaves the answer to the later ones.
unfoldable pub year_tells : ℤ → Ends → ℤ → TargetYear → TargetYear
year_tells target e year later = cond (reaches target e.upper) (cond (reaches target e.lower) (Reached year) Open) later

-- of k years from the year n on; "If no upper end reaches it, the answer is none."
unfoldable pub sought_from : Params → ℤ → ℤ → ℕ → ℕ → TargetYear
sought_from p age target n zero = Never
sought_from p age target n (suc k) = year_tells target (period_ends p age n) (p.start +ℤ pos n) (sought_from p age target (suc n) k)

-- "A steep cell in any of the 51 years gives 6."
unfoldable pub in_range_from : Params → ℤ → ℕ → ℕ → Bool
in_range_from p age n zero = true
in_range_from p age n (suc k) = period_in_range p age n && in_range_from p age (suc n) k

-- the quote years, from the first to the last
abbrev pub years_sought : ℕ
years_sought = suc quote_years - first_years

unfoldable pub target_refusal : Params → ℤ → Refusal
target_refusal p age =
    first_failed
    (record { passed = in_limits p; refusal = OutOfLimits } ∷ record { passed = age_in_table age; refusal = NoSuchAge }
    ∷ record { passed = in_range_from p age first_years years_sought; refusal = LogForceOutOfRange } ∷ [])

-- a year, or the refusal
abbrev pub TargetAnswer : Type 0
TargetAnswer = Result TargetYear Refusal

unfoldable pub target_answer : Params → ℤ → ℤ → TargetAnswer
target_answer p age target =
    let r = target_refusal p age in
    cond (eqb (refusal_number r) 0) (Ok (sought_from p age target first_years years_sought)) (Err r)

-- ---- what it says of the exact values

-- the exact period expectancy at an age in the year n after the start
abbrev pub exact_period : Params → ℤ → ℕ → Exact
exact_period p age n = exact_query p PeriodExpectancy age (p.start +ℤ pos n) (pos 0)

-- it is at least the target, as every expectancy is at least a target below 0
unfoldable pub AtLeastTarget : Exact → ℤ → Type 0
AtLeastTarget x (pos t) = AtLeast x (in_units billionths t)
AtLeastTarget x (negsuc t) = Unit

-- "A named year is the earliest whose exact expectancy is at least the target", of the quote years
pub record Earliest (p : Params) (age target year : ℤ) : Type 0 where
  pub number : ℕ
  pub is : year ≡ p.start +ℤ pos number
  pub first : first_years ≤ number
  pub last : number ≤ quote_years
  pub reached : AtLeastTarget (exact_period p age number) target
  pub none_before : (m : ℕ) → first_years ≤ m → m < number → AtLeastTarget (exact_period p age m) target → ⊥

-- "and none means no year has one"
abbrev pub NoYear : Params → ℤ → ℤ → Type 0
NoYear p age target = (m : ℕ) → first_years ≤ m → m ≤ quote_years → AtLeastTarget (exact_period p age m) target → ⊥

pub record Honest (p : Params) (age target : ℤ) (r : TargetAnswer) : Type 0 where
  pub named : (year : ℤ) → r ≡ Ok (Reached year) → Earliest p age target year
  pub none : r ≡ Ok Never → NoYear p age target
