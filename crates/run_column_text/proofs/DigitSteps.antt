-- Room for the digits that are left: the number that they give is below 1,000,000.
use mathlib.Core.Path.{◌≡◌}
use Prim.Native.Nat.{ℕ, zero, suc, ◌+◌, ◌-◌, ◌*◌, ◌^◌, ◌≤◌, ◌<◌}
use native.Mathlib.Nat.{pow-suc, pow-le-pow_right, zero-lt-suc, mul-le-mul, mul-le-mul_right, le_trans}
use native.Mathlib.Omega.{arith}
use Rattle.text_tokens.specs.laws.DigitLaws.{digit-within}
use Rattle.run_column_text.specs.Column.{decimals}
use Rattle.run_column_text.specs.code.Code.{most_steps}

-- n digits after those of v
pub record Room (v n : ℕ) : Type 0 where
  pub room : suc v * 10 ^ n ≤ most_steps

pub room-start : {v n : ℕ} → n ≤ decimals → v < 10 → Room v n
room-start {v} {n} h k =
    let p : 10 ^ n ≤ 10 ^ decimals = pow-le-pow_right {n = 10} (zero-lt-suc 9) h in
    let q : suc v ≤ 10 = k in
    record { room = omega (arith, mul-le-mul q p) }

pub room_bound : {v n : ℕ} → Room v n → v < most_steps
room_bound {v} {n} r =
    let h : 0 ≤ n = omega arith in
    let p : 1 ≤ 10 ^ n = pow-le-pow_right {n = 10} (zero-lt-suc 9) h in
    omega (arith, r.room, mul-le-mul_right (suc v) p)

pub room_next : {v d : ℕ} (n : ℕ) → 0 < n → d ≤ 9 → Room v n → Room (v * 10 + d) (n - 1)
room_next zero l h r = absurd (omega arith)
room_next {v} {d} (suc n) l h r =
    let e : suc n - 1 ≡ n = omega arith in
    record { room = rw e (le_trans (digit-within v d 10 (10 ^ n) (omega arith)) (rw (pow-suc 10 n) at r.room)) }
