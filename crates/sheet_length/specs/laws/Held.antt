-- A value in limits as the code holds it, in 64 bits: it reads back as itself, and it has at most 15 digits.
use Rattle.std.specs.Prelude.{◌≡◌, ℕ, ◌^◌, ◌<◌, T, leb, ℤ, pos, negsuc, nat_abs}
use Rattle.std.proofs.Common.{arith, leb→le, to_z, of_z}
use Rattle.std.specs.Int.{w64}
use Rattle.number_whole.specs.code.Sizes.{Under}
use Rattle.number_whole.proofs.laws.Bound.{under-weaken, back}
use Rattle.number_whole.proofs.laws.Split.{split}
use Rattle.text_tokens.specs.Number.{most_digits}
use Rattle.set_params.specs.declared.Params.{Params}
use Rattle.set_params.specs.declared.Age.{Age}
use Rattle.set_limits.specs.InLimits.{in_limits}
use Rattle.set_params.specs.Limits.{period_limit, last_start}
use Rattle.set_params.specs.code.Within.{AgeWithin, StartWithin}
use Rattle.set_limits.specs.laws.LimitsLaws.{in-limits-start, in-limits-series}

pub record Held (z : ℤ) : Type 0 where
  pub is : to_z w64 (of_z w64 z) ≡ z
  pub small : nat_abs (to_z w64 (of_z w64 z)) < 10 ^ most_digits

held : {z : ℤ} {k : ℕ} → Under z k → T (leb k period_limit) → Held z
held {z} {k} u t =
    let w = under-weaken u (leb→le k period_limit t) in
    let q : to_z w64 (of_z w64 z) ≡ z = back w tt in
    record { is = q; small = rw q (omega (arith, w.under)) }

start_under : (z : ℤ) → StartWithin z → Under z last_start
start_under (pos n) w = record { under = omega (split, w.last) }
start_under (negsuc n) w = absurd (omega (split, w.first))

-- the values of the series, the start and c
pub record SeriesHeld (p : Params) : Type 0 where
  pub a : Held p.a
  pub theta : Held p.theta
  pub period : Held p.period
  pub kappa : Held p.kappa
  pub start : Held p.start
  pub c : Held p.c

pub series-held : (p : Params) → T (in_limits p) → SeriesHeld p
series-held p t =
    let w = in-limits-series p t in
    record {
      a = held w.dynamics.a tt;
      theta = held w.index.theta tt;
      period = held w.index.start tt;
      kappa = held w.kappa tt;
      start = held (start_under p.start (in-limits-start p t)) tt;
      c = held w.dynamics.c tt;
    }

-- the values of an age
pub record AgeHeld (a : Age) : Type 0 where
  pub level : Held a.level
  pub slope : Held a.slope
  pub alpha : Held a.alpha
  pub beta : Held a.beta

pub age-held : (a : Age) → AgeWithin a → AgeHeld a
age-held a w =
    record {
      level = held w.level tt;
      slope = held w.slope tt;
      alpha = held w.alpha tt;
      beta = held w.beta tt;
    }
