-- Every answer says of the exact values what it is to mean.
use Rattle.std.specs.Prelude.{◌≡◌, Bool, true, false, cond, T, eqb, ℤ, pos, negsuc, ◌+ℤ◌, Ok, Err}
use Rattle.std.proofs.Math.Path.{refl}
use Rattle.std.proofs.Common.{sym, arith, leb-true, leb-false, ne_eqb}
use Prim.Native.Nat.{ℕ, zero, suc, ◌+◌, ◌≤◌, ◌<◌}
use Rattle.std.proofs.Math.Decide.{dec_lt}
use Rattle.std.specs.Float.Ieee.Bits.{is_true}
use Rattle.std.proofs.Math.Facts.{and_yes}
use Rattle.number_whole.proofs.laws.Clash.{clash}
use Rattle.number_fraction.specs.Ratio.{◌≤/◌}
use Rattle.number_exponential.specs.Units.{billionths, grid_of}
use Rattle.number_exponential.specs.Grid.{in_units}
use Rattle.number_exact.specs.Value.{Exact, AtLeast, AtMost, Narrows}
use Rattle.number_exact.proofs.laws.ValueLaws.{at-least-weaken, overlap-at-least, overlap-at-most}
use Rattle.number_exact.proofs.laws.OneValue.{at-least-at-most}
use Rattle.set_params.specs.declared.Params.{Params}
use Rattle.set_params.specs.Limits.{first_years, quote_years}
use Rattle.set_limits.specs.InLimits.{in_limits}
use Rattle.quote_paths.proofs.laws.Facts.{billionths-facts}
use Rattle.quote_paths.proofs.laws.Holds.{value-holds}
use Rattle.quote_paths.proofs.laws.Narrowing.{value-narrows}
use Rattle.quote_kinds.specs.declared.Kind.TheVariants.{PeriodExpectancy}
use Rattle.quote_kinds.specs.Kinds.{rule_of}
use Rattle.set_refusal.specs.declared.Refusal.{Refusal}
use Rattle.set_refusal.specs.declared.Refusal.TheVariants.{Accepted}
use Rattle.set_refusal.specs.Refusals.{refusal_number}
use Rattle.set_refusal.specs.laws.RefusalLaws.{accepted}
use Rattle.quote_table_tests.specs.TableTests.{age_in_table, first_failed}
use Rattle.quote_table_tests.proofs.laws.TableLaws.{passed}
use Rattle.quote.specs.Quote.{query_ends, exact_query}
use Rattle.quote.proofs.laws.Tests.{query-answered}
use Rattle.quote_target.specs.declared.TargetYear.TheVariants.{Reached, Open, Never}
use Rattle.quote_target.specs.Target.{period_ends, period_in_range, reaches, year_tells, sought_from, in_range_from, years_sought, target_refusal, target_answer}
use Rattle.quote_target.specs.Target.{exact_period, AtLeastTarget, Honest}
use Rattle.quote_target.proofs.laws.PeriodLaws.{in_table}

-- ---- one year

-- the ends of a year hold its exact value, which narrows
record Held (p : Params) (age : ℤ) (n : ℕ) : Type 0 where
  at_least : AtLeast (exact_period p age n) (in_units billionths (period_ends p age n).lower)
  at_most : AtMost (exact_period p age n) (in_units billionths (period_ends p age n).upper)
  narrows : Narrows (exact_period p age n)

year-held : (p : Params) (age : ℤ) (n : ℕ) → T (in_limits p) → T (age_in_table age) → first_years ≤ n → n ≤ quote_years
    → period_in_range p age n ≡ true → Held p age n
unfolding period_ends period_in_range query_ends exact_query grid_of
year-held p age n t a l h r =
    let q = query-answered (record { limits = t; table = in_table p.start age n a l h; range = rw r tt }) in
    let f = (rule_of PeriodExpectancy).fold in
    record {
      at_least = overlap-at-least (λ j i. value-holds billionths-facts q j i f);
      at_most = overlap-at-most (λ j i. value-holds billionths-facts q j i f);
      narrows = value-narrows q f;
    }

units-ordered : {a b : ℕ} → a ≤ b → in_units billionths a ≤/ in_units billionths b
unfolding in_units
units-ordered l = record { cross = omega arith }

units-order : {a b : ℕ} → in_units billionths a ≤/ in_units billionths b → a ≤ b
unfolding in_units
units-order l = omega (arith, l.cross)

-- an end at or above the target, and one below it
reached-by : {v : Exact} (target : ℤ) (e : ℕ) → AtLeast v (in_units billionths e) → reaches target e ≡ true → AtLeastTarget v target
unfolding AtLeastTarget reaches
reached-by (pos t) e h r = at-least-weaken (units-ordered (leb-true t e r)) h
reached-by (negsuc t) e h r = tt

not-reached : {v : Exact} (target : ℤ) (e : ℕ) → Narrows v → AtMost v (in_units billionths e) → reaches target e ≡ false
    → AtLeastTarget v target → ⊥
unfolding AtLeastTarget reaches
not-reached (pos t) e n h r a = omega (arith, units-order (at-least-at-most n a h), leb-false t e r)
not-reached (negsuc t) e n h r a = clash cc

-- ---- all years

-- each year of k from n on holds
abbrev HeldFrom : Params → ℤ → ℕ → ℕ → Type 0
HeldFrom p age n k = (m : ℕ) → n ≤ m → m < n + k → Held p age m

-- the first of some years in which the target is reached, and none of them
record FirstFrom (p : Params) (age target : ℤ) (n k : ℕ) (year : ℤ) : Type 0 where
  number : ℕ
  is : year ≡ p.start +ℤ pos number
  from : n ≤ number
  to : number < n + k
  reached : AtLeastTarget (exact_period p age number) target
  none_before : (m : ℕ) → n ≤ m → m < number → AtLeastTarget (exact_period p age m) target → ⊥

module _ (p : Params) (age target : ℤ) where
  -- what is told by the tests of the first of them
  sought-named : (n k : ℕ) → HeldFrom p age n k → (year : ℤ) → sought_from p age target n k ≡ Reached year → FirstFrom p age target n k year
  unfolding sought_from year_tells
  sought-named n zero held year e = clash cc
  sought-named n (suc k) held year e =
      go (sought-named (suc n) k (λ m f g. held m (omega arith) (omega arith)) year) (reaches target (period_ends p age n).upper) refl (reaches target (period_ends p age n).lower) refl e
    where
      here : Held p age n
      here = held n (omega arith) (omega arith)

      go : (sought_from p age target (suc n) k ≡ Reached year → FirstFrom p age target (suc n) k year)
          → (u : Bool) → reaches target (period_ends p age n).upper ≡ u → (l : Bool) → reaches target (period_ends p age n).lower ≡ l
          → cond u (cond l (Reached (p.start +ℤ pos n)) Open) (sought_from p age target (suc n) k) ≡ Reached year
          → FirstFrom p age target n (suc k) year
      go ih true a true b q =
          let y : p.start +ℤ pos n ≡ year = cc in
          record {
            number = n;
            is = sym y;
            from = omega arith;
            to = omega arith;
            reached = reached-by target _ here.at_least b;
            none_before = λ m f g. absurd (omega arith);
          }
      go ih true a false b q = clash cc
      go ih false a l b q =
          let r = ih q in
          record {
            number = r.number;
            is = r.is;
            from = omega (arith, r.from);
            to = omega (arith, r.to);
            reached = r.reached;
            none_before = λ m f g. elim (dec_lt n m) [
              | yes d ↦ r.none_before m d g
              | no d ↦
                  let s : m ≡ n = omega arith in
                  rw s (not-reached target _ here.narrows here.at_most a)
            ];
          }

  sought-never : (n k : ℕ) → HeldFrom p age n k → sought_from p age target n k ≡ Never
      → (m : ℕ) → n ≤ m → m < n + k → AtLeastTarget (exact_period p age m) target → ⊥
  unfolding sought_from year_tells
  sought-never n zero held e m f g = absurd (omega arith)
  sought-never n (suc k) held e m f g =
      go (λ q d. sought-never (suc n) k (λ i b c. held i (omega arith) (omega arith)) q m d (omega arith)) (reaches target (period_ends p age n).upper) refl (reaches target (period_ends p age n).lower) e
    where
      here : Held p age n
      here = held n (omega arith) (omega arith)

      go : (sought_from p age target (suc n) k ≡ Never → n < m → AtLeastTarget (exact_period p age m) target → ⊥)
          → (u : Bool) → reaches target (period_ends p age n).upper ≡ u → (l : Bool)
          → cond u (cond l (Reached (p.start +ℤ pos n)) Open) (sought_from p age target (suc n) k) ≡ Never
          → AtLeastTarget (exact_period p age m) target → ⊥
      go ih true a true q = clash cc
      go ih true a false q = clash cc
      go ih false a l q = elim (dec_lt n m) [
        | yes d ↦ ih q d
        | no d ↦
            let s : m ≡ n = omega arith in
            rw s (not-reached target _ here.narrows here.at_most a)
      ]

-- each year of some that are in range is, and so holds
range-each : (p : Params) (age : ℤ) (n k m : ℕ) → in_range_from p age n k ≡ true → n ≤ m → m < n + k → period_in_range p age m ≡ true
unfolding in_range_from
range-each p age n zero m e f g = absurd (omega arith)
range-each p age n (suc k) m e f g =
    let b = and_yes (period_in_range p age n) (in_range_from p age (suc n) k) (rw e tt) in
    elim (dec_lt n m) [
      | yes d ↦ range-each p age (suc n) k m (is_true _ b.1) d (omega arith)
      | no d ↦ let s : m ≡ n = omega arith in rw s (is_true _ b.0)
    ]

-- ---- the theorem

-- what is told where nothing is refused
all_held : (p : Params) (age : ℤ) → target_refusal p age ≡ Accepted → HeldFrom p age first_years years_sought
unfolding target_refusal first_failed
all_held p age e =
    let l = passed (in_limits p) (λ q. clash cc) e in
    let a = passed (age_in_table age) (λ q. clash cc) l.1 in
    let r = passed (in_range_from p age first_years years_sought) (λ q. clash cc) a.1 in
    λ m f g. year-held p age m l.0 a.0 f (omega arith) (range-each p age first_years years_sought m (is_true _ r.0) f g)

accepted-honest : (p : Params) (age target : ℤ) → HeldFrom p age first_years years_sought
    → Honest p age target (Ok (sought_from p age target first_years years_sought))
accepted-honest p age target held =
    record {
      named = λ year q.
          let r = sought-named p age target first_years years_sought held year cc in
          record {
            number = r.number;
            is = r.is;
            first = r.from;
            last = omega (arith, r.to);
            reached = r.reached;
            none_before = r.none_before;
          };
      none = λ q m f g. sought-never p age target first_years years_sought held (let s : sought_from p age target first_years years_sought ≡ Never = cc in s) m f (omega arith);
    }

refused-honest : (p : Params) (age target : ℤ) (r : Refusal) → Honest p age target (Err r)
refused-honest p age target r = record { named = λ year q. clash cc; none = λ q. clash cc }

pub honest : (p : Params) (age target : ℤ) → Honest p age target (target_answer p age target)
unfolding target_answer
honest p age target = go (refusal_number (target_refusal p age)) refl
  where
    go : (n : ℕ) → refusal_number (target_refusal p age) ≡ n
        → Honest p age target (cond (eqb n 0) (Ok (sought_from p age target first_years years_sought)) (Err (target_refusal p age)))
    go zero e = accepted-honest p age target (all_held p age (accepted (target_refusal p age) e))
    go (suc n) e = rw (ne_eqb (suc n) 0 (λ z. omega arith)) (refused-honest p age target (target_refusal p age))
