-- The part of a year in a term: at most the whole, and only of a date.
use Rattle.std.specs.Prelude.{◌≡◌, refl, Bool, true, false, cond, ◌≤◌, T, ℤ, nat_abs}
use Rattle.std.proofs.Common.{arith, lit≤}
use Rattle.number_fraction.specs.Ratio.{Ratio, ◌≤/◌, whole/}
use Rattle.quote_calendar.specs.Calendar.{is_day, date_year}
use Rattle.quote_calendar.specs.laws.Days.{day-plain, day-below, year-days}
use Rattle.quote_kinds.specs.declared.Rule.{Rule}
use Rattle.quote_kinds.specs.Kinds.{date_part, part_of}

pub record PartIn (dated : Bool) (part : Ratio) : Type 0 where
  pub small : part ≤/ whole/ 1
  pub whole : part.den ≤ 366
  pub some : (part.num ≡ 0 → ⊥) → T dated

by-date : (dated : Bool) (term : ℤ) → (T dated → T (is_day term)) → PartIn dated (cond dated (date_part (nat_abs term)) (whole/ 0))
unfolding date_part whole/
by-date true term d =
    record {
      small = record { cross = omega (arith, day-below (nat_abs term) (day-plain term (d tt))) };
      whole = (year-days (date_year (nat_abs term))).1;
      some = λ n. tt;
    }
by-date false term d = record { small = record { cross = omega arith }; whole = lit≤ tt; some = λ n. n refl }

pub part_in : (r : Rule) (term : ℤ) → (T r.dated → T (is_day term)) → PartIn r.dated (part_of r term)
unfolding part_of
part_in r term d = by-date r.dated term d
