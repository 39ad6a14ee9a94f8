-- `target_within` meets its contract.
use Rattle.std.specs.Prelude.{Ok, Err}
use mathlib.Core.Path.{◌≡◌, refl, ap, sym, ◌∙◌}
use mathlib.Core.Bool.{Bool, true, false}
use Prim.Native.Nat.{ℕ, ◌≤◌}
use native.Mathlib.Omega.{arith}
use lib.Dec.{T}
use mir.Syntax.{w64}
use mir.Val.{to_z}
use mir.Facts.{to_z-of_z}
use lib.IntN.{ℤ, pos, ◌+ℤ◌}
use mir.Val.{SFits}
use Rattle.number_whole.proofs.laws.Bound.{bits, under-add, under-pos, fits}
use Rattle.number_whole.proofs.laws.Clash.{clash}
use Rattle.number_whole.proofs.Signed.{sum}
use Rattle.model_closure.specs.Weights.{last_closed}
use Rattle.set_params.specs.Limits.{first_years, quote_years}
use Rattle.set_limits.specs.InLimits.{in_limits}
use Rattle.set_limits.specs.laws.LimitsLaws.{in-limits-start}
use Rattle.set_refusal.specs.declared.Refusal.{Refusal}
use Rattle.quote_along.specs.declared.Quote.{Quote}
use Rattle.quote_along.specs.code.Code.{in_range_or}
use Rattle.quote_table_tests.specs.TableTests.{age_in_table, between}
use Rattle.quote_target.specs.Target.{period_ends, period_in_range, year_tells, sought_from, in_range_from, years_sought}
use Rattle.quote_target.specs.declared.TargetYear.{TargetYear}
use Rattle.number_exponential.specs.declared.Ends.{Ends}
use Rattle.set_params.specs.declared.Params.{Params}
use Rattle.quote_target.proofs.laws.PeriodLaws.{start_under, period_quote, period-answer}
use Rattle.quote_target.proofs.laws.SoughtLaws.{sought-back, range_back, range-out, no-such-age, out_of_range, all-in-range}
use Rattle.quote_target.proofs.target_within.Goals as goal
use Rattle.quote_target.proofs.target_within.Tie as tie
use Rattle.quote_target.proofs.target_within.Lts as lts
use Rattle.quote_target.proofs.target_within.Reads as reads

-- ---- the age is the table's

age-out : {age : ℤ} → SFits w64 age → false ≡ between (pos 0) (pos last_closed) (bits age) → age_in_table age ≡ false
unfolding age_in_table
age-out f e = sym (rw (to_z-of_z f) at e)

age-in : {age : ℤ} → SFits w64 age → true ≡ between (pos 0) (pos last_closed) (bits age) → T (age_in_table age)
unfolding age_in_table
age-in f e = rw (sym (rw (to_z-of_z f) at e)) tt

pub returns-then-not-between : goal.returns-then-not-between
returns-then-not-between c = no-such-age c.args.p c.args.age c.args.target c.requires (age-out c.ranges.age c.if-not-between.ensures)

pub loop-n-init : goal.loop-n-init
unfolding sought_from in_range_from
loop-n-init c = (refl, refl)

-- ---- the year, as it is read

year-read : (p : Params) → T (in_limits p) → (n : ℕ) → n ≤ quote_years
    → SFits w64 (bits p.start +ℤ to_z w64 n) × (bits (bits p.start +ℤ to_z w64 n) ≡ p.start +ℤ pos n)
year-read p t n h =
    let u = start_under (in-limits-start p t) in
    let k = under-pos {k = quote_years} h in
    sum (to_z-of_z (fits u tt)) (to_z-of_z (fits k tt)) refl (fits (under-add u k) tt)

pub overflow_add-year : goal.overflow_add-year
overflow_add-year c = (year-read c.args.p c.requires c.loop-n.n c.loop-n.auto.n).0

-- ---- the year's answer

decided : (w : lts.After-answer_within tie.the-claims reads.Pre reads.Post goal.the-invariant-loop-n goal.the-decreases-loop-n) → let n = w.loop-n.n in
    w.answer_within-answer.result ≡ in_range_or (period_in_range w.args.p w.args.age n) (period_quote w.args.p w.args.age n)
decided w =
    let n = w.loop-n.n in
    let p = w.args.p in
    rw (to_z-of_z w.ranges.age, (year-read p w.requires n w.loop-n.auto.n).1) at w.answer_within-answer.ensures
    ∙ period-answer p w.args.age n w.requires (age-in w.ranges.age w.if-not-between.ensures) w.loop-n-test.true w.loop-n.auto.n

refused-when : (b : Bool) (q : Quote) {r : Refusal} → in_range_or b q ≡ Err r → b ≡ false
unfolding in_range_or
refused-when true q e = clash cc
refused-when false q e = refl

quoted-when : (b : Bool) (q : Quote) {q' : Quote} → in_range_or b q ≡ Ok q' → (b ≡ true) × (q ≡ q')
unfolding in_range_or
quoted-when true q e = (refl, cc)
quoted-when false q e = clash cc

pub returns-in_default : goal.returns-in_default
returns-in_default c =
    let n = c.loop-n.n in
    let o = refused-when _ _ (sym (decided c.before) ∙ c.in_default.is) in
    out_of_range c.args.p c.args.age c.args.target c.requires (age-in c.ranges.age c.if-not-between.ensures)
    (range-out c.args.p c.args.age years_sought first_years n c.loop-n-test.true (omega (arith, c.loop-n.auto.n)) o)

-- what a year tells, by its parts
told-by : {t t' : ℤ} {e e' : Ends} {y y' : ℤ} {f f' : TargetYear} → t ≡ t' → e ≡ e' → y ≡ y' → f ≡ f'
    → {r : TargetYear} → r ≡ year_tells t e y f → r ≡ year_tells t' e' y' f'
told-by a b c d h = h ∙ rw (a, b, c, d)

quote-ends : (p : Params) (age : ℤ) (n : ℕ) {q : Quote} → period_quote p age n ≡ q
    → record { lower = q.lower; upper = q.upper } ≡ period_ends p age n
quote-ends p age n e = rw (← e)

pub loop-n-preserved : goal.loop-n-preserved
loop-n-preserved c =
    let n = c.loop-n.n in
    let v = c.loop-n.invariant in
    let p = c.args.p in
    let age = c.args.age in
    let h = c.loop-n.auto.n in
    let a = to_z-of_z c.ranges.age in
    let k = quoted-when (period_in_range p age n) (period_quote p age n) (sym (decided c.before.before.before) ∙ c.in-Ok.is) in (
      told-by refl (quote-ends p age n k.1 ∙ ap (λ (x : ℤ). period_ends p x n) (sym a)) (year-read p c.requires n h).1 v.0
          c.year_tells-found.ensures
          ∙ sym (sought-back p (bits age) (bits c.args.target) n c.loop-n-test.true h),
      rw (range_back p (bits age) n c.loop-n-test.true h, v.1, a, k.0),
    )

pub returns : goal.returns
returns c =
    let z : c.loop-n.n ≡ 0 = omega (arith, c.loop-n-test.false) in
    let f = to_z-of_z c.ranges.age in
    let g = to_z-of_z c.ranges.target in
    ap Ok (rw (z, f, g) at c.loop-n.invariant.0)
    ∙ all-in-range c.args.p c.args.age c.args.target c.requires (age-in c.ranges.age c.if-not-between.ensures) (rw (z, f) at c.loop-n.invariant.1)
