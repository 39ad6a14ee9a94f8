-- Laws of a verdict: age by age, by its cases, and of the refusals before it.
use Rattle.std.specs.Prelude.{◌≡◌, refl, Bool, true, false, cond, ◌||◌, List, ℕ, zero, suc, ◌<◌, T, eqb, ℤ, Ok, Err}
use Rattle.std.proofs.Common.{ap, ap₂, not-suc-le-zero, arith, ne_eqb}
use Rattle.std.proofs.Math.Decide.{dec_lt}
use Rattle.number_whole.proofs.laws.Clash.{clash}
use Rattle.text_tokens.specs.Text.{Parse, is_taken}
use Rattle.number_exponential.specs.Units.{billionths}
use Rattle.set_params.specs.declared.Params.{Params}
use Rattle.set_refusal.specs.declared.Refusal.{Refusal}
use Rattle.set_refusal.specs.declared.Refusal.TheVariants.{Accepted}
use Rattle.set_limits.specs.InLimits.{in_limits}
use Rattle.set_refusal.specs.Refusals.{refusal_number}
use Rattle.set_refusal.specs.laws.RefusalLaws.{accepted}
use Rattle.quote_paths.specs.Path.{path_in_range}
use Rattle.quote_kinds.specs.declared.Kind.TheVariants.{Death}
use Rattle.quote_kinds.specs.Kinds.{rule_of}
use Rattle.quote_table_tests.specs.TableTests.{year_in_table, first_failed}
use Rattle.quote_table_tests.proofs.laws.TableLaws.{passed}
use Rattle.quote.specs.Demand.{Shown}
use Rattle.quote_verdicts.specs.declared.Verdict.{Verdict}
use Rattle.quote_verdicts.specs.declared.Verdict.TheVariants.{Right, Wrong, Open}
use Rattle.quote_verdicts.specs.Verdict.{
  differs,
  is_open,
  some_below,
  verdict_to,
  year_cells,
  column_tests,
  column_refusal,
  judged_by,
}
use Rattle.quote_verdicts.specs.code.Code.{age_verdict, joined}

-- ---- some of the ages below n

or-none : (a b : Bool) → (a || b) ≡ false → (a ≡ false) × (b ≡ false)
or-none true b e = clash cc
or-none false b e = (refl, e)

-- where none is, the one at x is not
pub none-at : (n : ℕ) (test : ℕ → Bool) → some_below n test ≡ false → (x : ℕ) → x < n → test x ≡ false
unfolding some_below
none-at zero test e x l = absurd (not-suc-le-zero l)
none-at (suc n) test e x l =
    let k = or-none (some_below n test) (test n) e in
    elim (dec_lt x n) [
      | yes m ↦ none-at n test k.0 x m
      | no m ↦ let q : x ≡ n = omega arith in rw q k.1
    ]

-- where some is, there is one
pub record Found (n : ℕ) (test : ℕ → Bool) : Type 0 where
  pub age : ℕ
  pub below : age < n
  pub holds : test age ≡ true

found-by : {n : ℕ} {test : ℕ → Bool} (b : Bool) → (b ≡ true → Found n test) → (b || test n) ≡ true → Found (suc n) test
found-by true f e = let h = f refl in record { age = h.age; below = omega (arith, h.below); holds = h.holds }
found-by {n} false f e = record { age = n; below = omega arith; holds = e }

pub found : (n : ℕ) (test : ℕ → Bool) → some_below n test ≡ true → Found n test
unfolding some_below
found zero test e = clash cc
found (suc n) test e = found-by (some_below n test) (found n test) e

-- two tests that agree
some_same : (n : ℕ) (test other : ℕ → Bool) → ((x : ℕ) → x < n → test x ≡ other x) → some_below n test ≡ some_below n other
unfolding some_below
some_same zero test other h = refl
some_same (suc n) test other h =
    ap₂ (λ (a b : Bool). a || b) (some_same n test other (λ x l. h x (omega arith))) (h n (omega arith))

-- ---- the verdict age by age

-- on no age
pub verdict-none : (figure : ℕ → Shown) (entry : ℕ → ℕ) → verdict_to figure entry 0 ≡ Right
unfolding verdict_to some_below
verdict-none figure entry = refl

joined-cases : (a b c d : Bool)
    → joined (cond a Wrong (cond b Open Right)) (cond c Wrong (cond d Open Right)) ≡ cond (a || c) Wrong (cond (b || d) Open Right)
unfolding joined
joined-cases true b c d = refl
joined-cases false true true d = refl
joined-cases false true false true = refl
joined-cases false true false false = refl
joined-cases false false c d = refl

-- on one age more
pub verdict-more : (figure : ℕ → Shown) (entry : ℕ → ℕ) (n : ℕ)
    → joined (verdict_to figure entry n) (age_verdict (figure n) (entry n)) ≡ verdict_to figure entry (suc n)
unfolding verdict_to some_below age_verdict
verdict-more figure entry n =
    joined-cases (some_below n (λ (x : ℕ). differs (figure x) (entry x))) (some_below n (λ (x : ℕ). is_open (figure x)))
    (differs (figure n) (entry n)) (is_open (figure n))

-- by figures that agree
pub verdict-same : (figure other : ℕ → Shown) (entry : ℕ → ℕ) (n : ℕ) → ((x : ℕ) → x < n → figure x ≡ other x)
    → verdict_to figure entry n ≡ verdict_to other entry n
unfolding verdict_to
verdict-same figure other entry n h =
    ap₂ (λ (a b : Bool). cond a Wrong (cond b Open Right))
    (some_same n _ _ (λ x l. ap (λ (s : Shown). differs s (entry x)) (h x l)))
    (some_same n _ _ (λ x l. ap is_open (h x l)))

-- ---- the verdict by its cases

right-cases : (a b : Bool) → cond a Wrong (cond b Open Right) ≡ Right → (a ≡ false) × (b ≡ false)
right-cases true b e = clash cc
right-cases false true e = clash cc
right-cases false false e = (refl, refl)

wrong-cases : (a b : Bool) → cond a Wrong (cond b Open Right) ≡ Wrong → a ≡ true
wrong-cases true b e = refl
wrong-cases false true e = clash cc
wrong-cases false false e = clash cc

-- right: none differs and none is open
pub right-none : (figure : ℕ → Shown) (entry : ℕ → ℕ) (n : ℕ) → verdict_to figure entry n ≡ Right → (x : ℕ) → x < n
    → (differs (figure x) (entry x) ≡ false) × (is_open (figure x) ≡ false)
unfolding verdict_to
right-none figure entry n e x l =
    let k = right-cases _ _ e in
    (none-at n (λ (y : ℕ). differs (figure y) (entry y)) k.0 x l, none-at n (λ (y : ℕ). is_open (figure y)) k.1 x l)

-- wrong: one differs
pub wrong-some : (figure : ℕ → Shown) (entry : ℕ → ℕ) (n : ℕ) → verdict_to figure entry n ≡ Wrong
    → Found n (λ (x : ℕ). differs (figure x) (entry x))
unfolding verdict_to
wrong-some figure entry n e = found n _ (wrong-cases _ (some_below n (λ (x : ℕ). is_open (figure x))) e)

-- ---- the refusals before it

-- a verdict is given where nothing is refused
pub verdict-given : (r : Refusal) (v w : Verdict) → judged_by r v ≡ Ok w → (r ≡ Accepted) × (v ≡ w)
unfolding judged_by
verdict-given r v w = go (refusal_number r) refl
  where
    go : (n : ℕ) → refusal_number r ≡ n → cond (eqb n 0) (Ok v) (Err r) ≡ Ok w → (r ≡ Accepted) × (v ≡ w)
    go zero q e = (accepted r q, cc)
    go (suc n) q e = let m = ne_eqb (suc n) 0 (λ z. omega arith) in clash cc

-- where nothing is refused, each test passed
pub record Accept (p : Params) (year : ℤ) (read : Parse (List ℕ)) : Type 0 where
  pub limits : T (in_limits p)
  pub whole : T (is_taken read)
  pub year-in : T (year_in_table p.start (rule_of Death) year)
  pub range : T (path_in_range billionths p (year_cells p.start year))

pub all-passed : (p : Params) (year : ℤ) (read : Parse (List ℕ)) → column_refusal p year read ≡ Accepted → Accept p year read
unfolding column_refusal column_tests first_failed
all-passed p year read e =
    let l = passed (in_limits p) (λ q. clash cc) e in
    let w = passed (is_taken read) (λ q. clash cc) l.1 in
    let y = passed (year_in_table p.start (rule_of Death) year) (λ q. clash cc) w.1 in
    let r = passed (path_in_range billionths p (year_cells p.start year)) (λ q. clash cc) y.1 in
    record { limits = l.0; whole = w.0; year-in = y.0; range = r.0 }
