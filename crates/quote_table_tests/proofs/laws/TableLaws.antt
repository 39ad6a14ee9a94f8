-- What a query in the table has: each test passes, and a number between two that are at least 0 is one itself.
use Rattle.std.specs.Prelude.{◌≡◌, refl, Bool, true, false, cond, ℕ, ◌≤◌, T, ℤ, pos, negsuc, nat_abs, ◌+ℤ◌, ◌-ℤ◌, ◌≤ℤ◌}
use Rattle.std.proofs.Common.{leb→le}
use Rattle.std.specs.Int.Signed.{le_z, le_z_yes}
use Rattle.std.proofs.Math.Facts.{and_yes}
use Rattle.number_whole.specs.code.Sizes.{Under}
use Rattle.number_whole.proofs.laws.Bound.{under-between}
use Rattle.number_whole.proofs.laws.Clash.{clash}
use Rattle.number_whole.proofs.laws.Split.{split, split-neg, split-add, split-sub, split-abs}
use Rattle.set_params.specs.Set.{year_number}
use Rattle.set_params.specs.Limits.{first_years, last_years}
use Rattle.set_params.specs.code.Within.{StartWithin}
use Rattle.set_refusal.specs.declared.Refusal.{Refusal}
use Rattle.set_refusal.specs.declared.Refusal.TheVariants.{Accepted}
use Rattle.quote_calendar.specs.Calendar.{is_day}
use Rattle.quote_kinds.specs.declared.Rule.{Rule}
use Rattle.quote_table_tests.specs.TableTests.{between, age_in_table, year_in_table, date_in_table, span_in_table, rate_in_table, first_failed, table_tests}

-- where the first failed is none, the first passed, and so did the others
pub passed : (b : Bool) {r s : Refusal} → (r ≡ Accepted → ⊥) → cond b s r ≡ Accepted → T b × (s ≡ Accepted)
passed true n e = (tt, e)
passed false n e = absurd (n e)

pub record InTable (start : ℤ) (rule : Rule) (age year term : ℤ) : Type 0 where
  pub age-in : T (age_in_table age)
  pub year-in : T (year_in_table start rule year)
  pub date-in : T (date_in_table rule term)
  pub span-in : T (span_in_table rule age year term)
  pub rate-in : T (rate_in_table rule)

pub in_table : (start : ℤ) (rule : Rule) (age year term : ℤ) → first_failed (table_tests start rule age year term) ≡ Accepted
    → InTable start rule age year term
unfolding first_failed table_tests
in_table start rule age year term e =
    let a = passed (age_in_table age) (λ q. clash cc) e in
    let y = passed (year_in_table start rule year) (λ q. clash cc) a.1 in
    let d = passed (date_in_table rule term) (λ q. clash cc) y.1 in
    let s = passed (span_in_table rule age year term) (λ q. clash cc) d.1 in
    let r = passed (rate_in_table rule) (λ q. clash cc) s.1 in
    record { age-in = a.0; year-in = y.0; date-in = d.0; span-in = s.0; rate-in = r.0 }

-- a term that is to be a date is a day
pub dated-day : (rule : Rule) (term : ℤ) → T (date_in_table rule term) → T rule.dated → T (is_day term)
unfolding date_in_table
dated-day rule term = go rule.dated
  where
    go : (b : Bool) → T (cond b (is_day term) true) → T b → T (is_day term)
    go true t d = t
    go false t d = elim d [ ]

-- a number between two that are at least 0
pub within : (a b : ℕ) (z : ℤ) → T (between (pos a) (pos b) z) → (pos (nat_abs z) ≡ z) × (a ≤ nat_abs z) × (nat_abs z ≤ b)
within a b (pos n) t =
    let k = and_yes (le_z (pos a) (pos n)) (le_z (pos n) (pos b)) t in
    (refl, leb→le a n k.0, leb→le n b k.1)
within a b (negsuc n) t = absurd (and_yes (le_z (pos a) (negsuc n)) (le_z (negsuc n) (pos b)) t).0

-- a year of the table, by its number from the start
pub record NumberIn (start year : ℤ) (a b : ℕ) : Type 0 where
  pub is : pos (year_number start year) ≡ year -ℤ start
  pub from : a ≤ year_number start year
  pub to : year_number start year ≤ b

whole : (z : ℤ) → pos 0 ≤ℤ z → pos (nat_abs z) ≡ z
whole (pos n) h = refl
whole (negsuc n) h = absurd h.le

-- a number between two others
bounds : (low high z : ℤ) → T (between low high z) → (low ≤ℤ z) × (z ≤ℤ high)
bounds low high z t =
    let k = and_yes (le_z low z) (le_z z high) t in
    (le_z_yes {a = low} {b = z} k.0, le_z_yes {a = z} {b = high} k.1)

pub number_in : (start year : ℤ) (a b : ℕ) → T (between (start +ℤ pos a) (start +ℤ pos b) year) → NumberIn start year a b
unfolding year_number
number_in start year a b t =
    let (l, h) = bounds (start +ℤ pos a) (start +ℤ pos b) year t in
    let d = split-sub year start in
    let e = whole (year -ℤ start) (omega (split, l, split-add start (pos a), d)) in
    record {
      is = e;
      from = omega (split, l, e, split-add start (pos a), d);
      to = omega (split, h, e, split-add start (pos b), d);
    }

-- so the year is the start or after it
pub year-reached : {start year : ℤ} {a b : ℕ} → StartWithin start → NumberIn start year a b → (pos 0 ≤ℤ start) × (start ≤ℤ year)
year-reached {start} {year} w n = (omega (split, w.first), omega (split, n.is, split-sub year start))

-- and the year itself is small
pub year-small : (start : ℤ) (rule : Rule) (year : ℤ) → StartWithin start → Under rule.years last_years
    → T (year_in_table start rule year) → Under year 9999
unfolding year_in_table
year-small start rule year w u t =
    let (l, h) = bounds (start +ℤ pos first_years) (start +ℤ rule.years) year t in
    under-between (omega (split, split-neg (pos 9999), l, w.first, split-add start (pos first_years)))
    (omega (split, h, w.last, split-add start rule.years, split-abs rule.years, u.under))
