-- What the years tell one year further back, and the answer by the tests.
use Rattle.std.specs.Prelude.{◌≡◌, true, false, ◌&&◌, T, ℤ, pos, ◌+ℤ◌, Ok, Err}
use Rattle.std.proofs.Math.Bool.{and-false}
use Prim.Native.Nat.{ℕ, zero, suc, ◌+◌, ◌-◌, ◌≤◌, ◌<◌}
use Rattle.std.proofs.Math.Decide.{dec_lt}
use native.Mathlib.Omega.{arith}
use Rattle.std.specs.Float.Ieee.Bits.{is_true}
use Rattle.set_params.specs.declared.Params.{Params}
use Rattle.set_params.specs.Limits.{first_years, quote_years}
use Rattle.set_refusal.specs.declared.Refusal.TheVariants.{OutOfLimits, NoSuchAge, LogForceOutOfRange}
use Rattle.set_refusal.specs.Refusals.{refusal_number}
use Rattle.set_limits.specs.InLimits.{in_limits}
use Rattle.quote_table_tests.specs.TableTests.{age_in_table, first_failed}
use Rattle.quote_target.specs.Target.{
  period_ends,
  period_in_range,
  year_tells,
  sought_from,
  in_range_from,
  years_sought,
  target_refusal,
  target_answer,
}

module _ (p : Params) (age : ℤ) where
  -- ---- one year further back

  pub sought-back : (target : ℤ) (n : ℕ) → first_years ≤ n → n ≤ quote_years
      → sought_from p age target (suc (n - 1)) (quote_years - (n - 1))
      ≡ year_tells target (period_ends p age n) (p.start +ℤ pos n) (sought_from p age target (suc n) (quote_years - n))
  unfolding sought_from
  sought-back target n l h =
      let a : suc (n - 1) ≡ n = omega arith in
      let b : quote_years - (n - 1) ≡ suc (quote_years - n) = omega arith in
      rw (a, b)

  pub range_back : (n : ℕ) → first_years ≤ n → n ≤ quote_years
      → in_range_from p age (suc (n - 1)) (quote_years - (n - 1)) ≡ (period_in_range p age n && in_range_from p age (suc n) (quote_years - n))
  unfolding in_range_from
  range_back n l h =
      let a : suc (n - 1) ≡ n = omega arith in
      let b : quote_years - (n - 1) ≡ suc (quote_years - n) = omega arith in
      rw (a, b)

  -- one year out of range is enough
  pub range-out : (k m n : ℕ) → m ≤ n → n < m + k → period_in_range p age n ≡ false → in_range_from p age m k ≡ false
  unfolding in_range_from
  range-out zero m n l h e = absurd (omega arith)
  range-out (suc k) m n l h e =
      elim (dec_lt m n) [
        | yes b ↦ rw (range-out k (suc m) n b (omega arith) e) (and-false (period_in_range p age m))
        | no b ↦ let s : m ≡ n = omega arith in rw (s, e)
      ]

  -- ---- the answer

  pub out-of-limits : (target : ℤ) → in_limits p ≡ false → Err OutOfLimits ≡ target_answer p age target
  unfolding target_answer target_refusal first_failed refusal_number
  out-of-limits target e = rw e

  module _ (target : ℤ) (t : T (in_limits p)) where
    pub no-such-age : age_in_table age ≡ false → Err NoSuchAge ≡ target_answer p age target
    unfolding target_answer target_refusal first_failed refusal_number
    no-such-age e = rw (is_true (in_limits p) t, e)

    pub out_of_range : T (age_in_table age) → in_range_from p age first_years years_sought ≡ false
        → Err LogForceOutOfRange ≡ target_answer p age target
    unfolding target_answer target_refusal first_failed refusal_number
    out_of_range a e = rw (is_true (in_limits p) t, is_true (age_in_table age) a, e)

    pub all-in-range : T (age_in_table age) → in_range_from p age first_years years_sought ≡ true
        → Ok (sought_from p age target first_years years_sought) ≡ target_answer p age target
    unfolding target_answer target_refusal first_failed refusal_number
    all-in-range a e = rw (is_true (in_limits p) t, is_true (age_in_table age) a, e)
