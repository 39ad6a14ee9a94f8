-- The force from an end of G as the code forms it, by the end's sign: the size that goes to the exponential, and the
-- quotient.
use mathlib.Core.Path.{◌≡◌, refl, ap, ◌∙◌}
use mathlib.Core.Bool.{Bool, true, false, not, cond}
use Prim.Native.Nat.{ℕ, suc, ◌+◌, ◌*◌, ◌/◌, ◌≤◌}
use native.Mathlib.Omega.{arith}
use lib.Dec.{T}
use lib.IntN.{ℤ, pos, nat_abs, ◌-ℤ◌, +ℤ_idl}
use lib.Signed.{non_neg, lt_z}
use mir.Syntax.{w64}
use mir.Val.{Fits, SFits}
use Rattle.number_whole.specs.Division.{ceil_div_ℕ}
use Rattle.number_whole.proofs.laws.Sign.{Sign, minus, plain, sign}
use Rattle.number_whole.specs.code.Sizes.{Under}
use Rattle.number_whole.proofs.laws.Bound.{bits, under-pos, fits, back}
use Rattle.number_exponential.specs.Exponential.{exp_lower, exp_upper}
use Rattle.number_exponential.specs.Grid.{Grid}
use Rattle.number_exponential.specs.declared.GridUnit.{GridUnit}
use Rattle.number_exponential.specs.Units.{grid_of}
use Rattle.number_exponential.proofs.laws.GridFacts.{unit-sound}
use Rattle.number_exponential.proofs.laws.AtMostOne.{exp-lower-one, exp-upper-one}
use Rattle.number_whole.proofs.Signed.{read}
use Rattle.model_logistic.specs.Logistic.{logistic_lower, logistic_upper, over_one_lower, over_one_upper, share_lower, share_upper}
use Rattle.model_logistic.specs.code.Code.{closed_limit}

-- ---- the size of an end

-- z is below 0 or not, and y is |z|: it fits, and is cast to a number without a sign
pub record Sized (below : Bool) (y z : ℤ) : Type 0 where
  pub signed : Sign z below
  pub fits : SFits w64 y
  pub cast : T (non_neg (bits y)) × Fits w64 (nat_abs (bits y))
  pub size : nat_abs (bits y) ≡ nat_abs z

sized : {below : Bool} {y z : ℤ} → Under z closed_limit → Sign z below → y ≡ pos (nat_abs z) → Sized below y z
sized u t e =
    let f = fits (under-pos u.under) tt in
    let r = read e f in
    record {
      signed = t;
      fits = rw e f;
      cast = rw r (tt, record { fits = omega (arith, u.under) });
      size = rw r refl;
    }

from-zero : {z : ℤ} → Sign z true → pos 0 -ℤ z ≡ pos (nat_abs z)
from-zero (minus n) = +ℤ_idl (pos (suc n))

itself : {z : ℤ} → Sign z false → z ≡ pos (nat_abs z)
itself (plain n) = refl

-- −G below 0, and else G
pub negated : {z : ℤ} → Under z closed_limit → Sign z true → Sized true (pos 0 -ℤ bits z) z
negated u s = sized u s (rw (back u tt) (from-zero s))

pub negative : {z : ℤ} → Under z closed_limit → lt_z (bits z) (pos 0) ≡ true → Sized true (pos 0 -ℤ bits z) z
negative {z} u t = negated u (sign z (rw (back u tt) at t))

pub other : {z : ℤ} → Under z closed_limit → lt_z (bits z) (pos 0) ≡ false → Sized false z z
other {z} u t =
    let s = sign z (rw (back u tt) at t) in
    sized u s (itself s)

-- ---- the two ends of the exponential

abbrev pub exp_end : Grid → Bool → ℕ → ℕ
exp_end g upper z = cond upper (exp_upper g z) (exp_lower g z)

-- are at most the unit
end-small : (u : GridUnit) (upper : Bool) (z : ℕ) → exp_end (grid_of u) upper z ≤ (grid_of u).unit
end-small u true z = exp-upper-one (grid_of u) (unit-sound u) z
end-small u false z = exp-lower-one (grid_of u) (unit-sound u) z

pub small : (u : GridUnit) (upper : Bool) (z : ℕ) {e : ℕ} → e ≡ exp_end (grid_of u) upper z → e ≤ (grid_of u).unit
small u upper z d = rw d (end-small u upper z)

-- ---- the quotients

module _ (g : Grid) (upper : Bool) where
  abbrev pub quotient : ℕ → ℕ → ℕ
  quotient n d = cond upper (ceil_div_ℕ (n * g.unit) d) (n * g.unit / d)

  abbrev pub logistic_end : ℤ → ℕ
  logistic_end z = cond upper (logistic_upper g z) (logistic_lower g z)

-- E/(1 + E) below 0, by the same end of E
share-by : (g : Grid) (upper : Bool) {z : ℤ} {e : ℕ} → Sign z true → e ≡ exp_end g upper (nat_abs z)
    → quotient g upper e (g.unit + e) ≡ logistic_end g upper z
unfolding logistic_upper logistic_lower share_upper share_lower
share-by g true (minus n) d = rw d
share-by g false (minus n) d = rw d

pub share-end : (g : Grid) (upper : Bool) {y z : ℤ} {e : ℕ} → Sized true y z → e ≡ exp_end g upper (nat_abs (bits y))
    → quotient g upper e (g.unit + e) ≡ logistic_end g upper z
share-end g upper k d = share-by g upper k.signed (d ∙ ap (exp_end g upper) k.size)

-- and else 1/(1 + E), by the other end
over_by : (g : Grid) (upper : Bool) {z : ℤ} {e : ℕ} → Sign z false → e ≡ exp_end g (not upper) (nat_abs z)
    → quotient g upper g.unit (g.unit + e) ≡ logistic_end g upper z
unfolding logistic_upper logistic_lower over_one_upper over_one_lower
over_by g true (plain n) d = rw d
over_by g false (plain n) d = rw d

pub over-end : (g : Grid) (upper : Bool) {y z : ℤ} {e : ℕ} → Sized false y z → e ≡ exp_end g (not upper) (nat_abs (bits y))
    → quotient g upper g.unit (g.unit + e) ≡ logistic_end g upper z
over-end g upper k d = over_by g upper k.signed (d ∙ ap (exp_end g (not upper)) k.size)
