-- What being in limits says of each parameter, and of kappa in each year; of a set of AG2014 the sizes alone decide.
use Rattle.std.specs.Prelude.{◌≡◌, refl, Bool, true, false, ◌&&◌, ℕ, zero, suc, ◌*◌, ◌≤◌, ◌<◌, T, ℤ, pos, ◌+ℤ◌, ◌*ℤ◌}
use Rattle.std.proofs.Common.{⊎_elim, eq-or-lt_of_le, le_of_suc-le-suc, arith, le-leb}
use Rattle.std.proofs.Math.Bool.{and-false}
use Rattle.std.specs.Float.Ieee.Bits.{is_true}
use Rattle.std.specs.Float.Ieee.Fits.{and_l, and_r}
use Rattle.std.specs.Int.Signed.{le_z, le_z_yes}
use Rattle.number_whole.specs.code.Sizes.{Under, Within}
use Rattle.number_whole.proofs.laws.Split.{split, split-abs}
use Rattle.number_whole.proofs.laws.Bound.{under-lit, under-weaken}
use Rattle.number_whole.proofs.laws.Nested.{nested-within}
use Rattle.number_exponential.specs.Grid.{Grid}
use Rattle.number_exponential.specs.Units.{billionths}
use Rattle.number_whole.specs.declared.SignedEnds.{SignedEnds}
use Rattle.set_params.specs.declared.Params.{Params}
use Rattle.set_params.specs.declared.Age.{Age}
use Rattle.set_params.specs.declared.Table.{Table}
use Rattle.set_params.specs.declared.Table.TheVariants.{Ag2014, LiLee}
use Rattle.set_params.specs.Set.{ages, age_of, dynamics_of}
use Rattle.set_params.specs.Limits.{level_limit, slope_limit, a_limit, theta_limit, period_limit, kappa_limit, constant_limit, last_years}
use Rattle.set_params.specs.Limits.{first_start, last_start, within}
use Rattle.set_params.specs.code.Within.{AgeWithin, PeriodWithin, DynamicsWithin, SeriesWithin, StartWithin}
use Rattle.set_series.specs.Series.{kappa}
use Rattle.set_series.proofs.laws.BoundLaws.{kappa-under}
use Rattle.set_series.proofs.laws.WidthLaws.{kappa-wide}
use Rattle.set_series.proofs.laws.Finer.{kappa-nested}
use Rattle.set_limits.specs.InLimits.{all_below, last_start_of, constant_limit_of, table_in_limits, series_in_limits, age_in_limits}
use Rattle.set_limits.specs.InLimits.{ends_in_limits, kappa_in_limits, in_limits}

both : (a b : Bool) → T (a && b) → T a × T b
both a b t = (and_l a b t, and_r a b t)

age-within : (a : Age) → T (age_in_limits a) → AgeWithin a
unfolding age_in_limits
age-within a t =
    let (l, t₁) = both (within level_limit a.level) _ t in
    let (s, t₂) = both (within slope_limit a.slope) _ t₁ in
    let (al, be) = both (within level_limit a.alpha) (within slope_limit a.beta) t₂ in
    record { level = under-lit l; slope = under-lit s; alpha = under-lit al; beta = under-lit be }

-- ---- below a bound

-- all below n: each is
pub all-each : (f : ℕ → Bool) (n : ℕ) → T (all_below f n) → (x : ℕ) → x < n → T (f x)
unfolding all_below
all-each f zero t x h = absurd (omega arith)
all-each f (suc n) t x h =
    let (before, here) = both (all_below f n) (f n) t in
    ⊎_elim (λ e. rw e here) (λ l. all-each f n before x l) (eq-or-lt_of_le (le_of_suc-le-suc h))

-- one that is not decides
pub all-out : (f : ℕ → Bool) (x n : ℕ) → x < n → f x ≡ false → all_below f n ≡ false
unfolding all_below
all-out f x zero h e = absurd (omega arith)
all-out f x (suc n) h e =
    ⊎_elim (λ q. rw (← q, e) (and-false (all_below f x))) (λ l. rw (all-out f x n l e)) (eq-or-lt_of_le (le_of_suc-le-suc h))

-- and where each is, all are
pub all_in : (f : ℕ → Bool) (n : ℕ) → ((x : ℕ) → x < n → f x ≡ true) → all_below f n ≡ true
unfolding all_below
all_in f zero h = refl
all_in f (suc n) h = rw (all_in f n (λ x l. h x (omega arith)), h n (omega arith))

-- ---- a set's parts

abbrev pub age_test : Params → ℕ → Bool
age_test p x = age_in_limits (age_of p x)

-- the tests of a set, one after the other
record Parts (p : Params) : Type 0 where
  table : T (table_in_limits p.table p.start p.c)
  series : T (series_in_limits p)
  ages : T (all_below (age_test p) ages)
  kappa : T (kappa_in_limits (dynamics_of p) p.kappa)

parts : (p : Params) → T (in_limits p) → Parts p
unfolding in_limits
parts p t =
    let (a, t₁) = both (table_in_limits p.table p.start p.c) _ t in
    let (b, t₂) = both (series_in_limits p) _ t₁ in
    let (c, d) = both (all_below (age_test p) ages) (kappa_in_limits (dynamics_of p) p.kappa) t₂ in
    record { table = a; series = b; ages = c; kappa = d }

-- the start, and c
constant-most : (t : Table) → constant_limit_of t ≤ constant_limit
unfolding constant_limit_of
constant-most Ag2014 = omega arith
constant-most LiLee = omega arith

start-most : (t : Table) → last_start_of t ≤ last_start
unfolding last_start_of
start-most Ag2014 = omega arith
start-most LiLee = omega arith

start-within : (t : Table) (start c : ℤ) → T (table_in_limits t start c) → StartWithin start
unfolding table_in_limits
start-within t start c h =
    let (l, h₁) = both (le_z (pos first_start) start) _ h in
    let (u, v) = both (le_z start (pos (last_start_of t))) (within (constant_limit_of t) c) h₁ in
    record {
      first = le_z_yes l;
      last = omega (split, le_z_yes {a = start} {b = pos (last_start_of t)} u, start-most t);
    }

constant-within : (t : Table) (start c : ℤ) → T (table_in_limits t start c) → Under c (constant_limit_of t)
unfolding table_in_limits
constant-within t start c h =
    under-lit
    (and_r (le_z start (pos (last_start_of t))) (within (constant_limit_of t) c)
    (and_r (le_z (pos first_start) start) (le_z start (pos (last_start_of t)) && within (constant_limit_of t) c) h))

-- ---- a set in limits

-- its start
pub in-limits-start : (p : Params) → T (in_limits p) → StartWithin p.start
in-limits-start p t = start-within p.table p.start p.c (parts p t).table

-- the four parameters of every age
pub in-limits-age : (p : Params) → T (in_limits p) → (x : ℕ) → x < ages → AgeWithin (age_of p x)
in-limits-age p t x h = age-within (age_of p x) (all-each (age_test p) ages (parts p t).ages x h)

-- those of the series
pub record Sizes (p : Params) : Type 0 where
  pub a : Under p.a a_limit
  pub index : PeriodWithin p.period p.theta
  pub kappa : Under p.kappa kappa_limit

pub series-within : (p : Params) → T (series_in_limits p) → Sizes p
unfolding series_in_limits
series-within p t =
    let (a, t₁) = both (within a_limit p.a) _ t in
    let (theta, t₂) = both (within theta_limit p.theta) _ t₁ in
    let (period, t₃) = both (within period_limit p.period) _ t₂ in
    let (last, kappa) =
    both (within period_limit (p.period +ℤ pos last_years *ℤ p.theta)) (within kappa_limit p.kappa) t₃ in
    record {
      a = under-lit a;
      index = record { theta = under-lit theta; start = under-lit period; last = under-lit last };
      kappa = under-lit kappa;
    }

pub dynamics-within : (p : Params) → T (table_in_limits p.table p.start p.c) → T (series_in_limits p)
    → DynamicsWithin (dynamics_of p)
dynamics-within p t s =
    let w = series-within p s in
    record {
      a = w.a;
      theta = w.index.theta;
      c = under-weaken (constant-within p.table p.start p.c t) (constant-most p.table);
    }

pub in-limits-series : (p : Params) → T (in_limits p) → SeriesWithin p
in-limits-series p t =
    let q = parts p t in
    let s = series-within p q.series in
    record { dynamics = dynamics-within p q.table q.series; index = s.index; kappa = s.kappa }

-- and kappa in every year
pub ends-within : (e : SignedEnds) → T (ends_in_limits e) → Within kappa_limit e
unfolding ends_in_limits
ends-within e t =
    let (l, u) = both (within kappa_limit e.lower) (within kappa_limit e.upper) t in
    record { low = under-lit l; high = under-lit u }

pub in-limits-kappa : (p : Params) → T (in_limits p) → (n : ℕ) → n ≤ last_years → Within kappa_limit (kappa billionths p n)
unfolding kappa_in_limits
in-limits-kappa p t n h =
    ends-within (kappa billionths p n)
    (all-each (λ (m : ℕ). ends_in_limits (kappa billionths p m)) (suc last_years) (parts p t).kappa n (omega arith))

-- on any grid, within as many of its units
pub in-limits-kappa-on : (g : Grid) (p : Params) → T (in_limits p) → (n : ℕ) → n ≤ last_years → Within (g.scale * kappa_limit) (kappa g p n)
in-limits-kappa-on g p t n h =
    let d = (in-limits-series p t).dynamics in
    nested-within (kappa-nested g (dynamics_of p) p.kappa n) (kappa-wide g p.kappa n d).ordered (in-limits-kappa p t n h)

-- ---- a set of AG2014: kappa stays within its limit

within-ends : {e : SignedEnds} → Within kappa_limit e → ends_in_limits e ≡ true
unfolding ends_in_limits
within-ends w = rw (le-leb _ _ w.low.under, le-leb _ _ w.high.under)

pub steady-kappa : (p : Params) → p.table ≡ Ag2014 → T (table_in_limits p.table p.start p.c) → T (series_in_limits p)
    → kappa_in_limits (dynamics_of p) p.kappa ≡ true
unfolding kappa_in_limits constant_limit_of
steady-kappa p e t s =
    let w = series-within p s in
    let u : Under p.c 0 = rw e at (constant-within p.table p.start p.c t) in
    all_in _ (suc last_years) (λ n h. within-ends (kappa-under billionths (dynamics-within p t s) (none p.c u) w.kappa n))
  where
    none : (z : ℤ) → Under z 0 → z ≡ pos 0
    none z u = omega (split, split-abs z, u.under)

-- so that its sizes decide
pub sizes-decide : (p : Params) → p.table ≡ Ag2014 → T (table_in_limits p.table p.start p.c) → T (series_in_limits p)
    → T (all_below (age_test p) ages) → T (in_limits p)
unfolding in_limits
sizes-decide p e t s a =
    rw (
      is_true (table_in_limits p.table p.start p.c) t,
      is_true (series_in_limits p) s,
      is_true (all_below (age_test p) ages) a,
      steady-kappa p e t s,
    ) tt
