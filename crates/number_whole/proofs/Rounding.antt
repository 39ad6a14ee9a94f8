-- What the proofs of rounded division share: a number that is shifted above zero and back fits 64 bits, and is divided as it is.
-- The operations of ℤ compute by cases, so that no lemma finds its arguments under them. Two stand here sealed (`diff`,
-- `less`), and `simp sealed` puts these for the others: then a lemma finds its operands in the goal.
use mathlib.Core.Path.{◌≡◌, refl, sym, ap, subst, ◌∙◌}
use mathlib.Core.Bool.{Bool, true, false, not}
use Prim.Native.Nat.{ℕ, ◌+◌, ◌-◌, ◌*◌, ◌/◌, ◌^◌, ◌≤◌, ◌<◌}
use native.Mathlib.Nat.{mul-le-mul_left}
use native.Mathlib.Omega.{arith}
use lib.Dec.{T}
use lib.IntN.{ℤ, pos, negsuc, nat_abs, ◌+ℤ◌, ◌-ℤ◌}
use lib.Signed.{◌≤ℤ◌, ◌<ℤ◌, lt_z, lt_z_yes, lt_z_no, non_neg}
use mir.Syntax.{w64}
use mir.Val.{Fits, SFits, to_z}
use mir.Facts.{to_z-of_z}
use Rattle.number_whole.specs.Parts.{below}
use Rattle.number_whole.proofs.laws.Above.{above}
use Rattle.number_whole.proofs.laws.Split.{split, split-sub, split-add, split-abs}
use Rattle.number_whole.specs.Division.{floor_div, ceil_div}
use Rattle.number_whole.proofs.laws.Bound.{bits, fits-parts, under-weaken, under-floor-to, under-ceil-to}
use Rattle.number_whole.proofs.laws.Shift.{floor-shift, ceil-is-floor}
use Rattle.number_whole.specs.code.Sizes.{Under, Divides}

-- ---- the sealed operations

pub diff : ℤ → ℤ → ℤ
diff a b = a -ℤ b

pub less : ℤ → ℤ → Bool
less a b = lt_z a b

pub diff_is : (a b : ℤ) → a -ℤ b ≡ diff a b
unfolding diff
diff_is a b = refl

pub less-is : (a b : ℤ) → lt_z a b ≡ less a b
unfolding less
less-is a b = refl

pub ruleset sealed = (diff_is, less-is)

-- a test that passed or failed
pub less-true : {a b : ℤ} → less a b ≡ true → a <ℤ b
unfolding less
less-true e = lt_z_yes (subst (λ (t : Bool). T t) (sym e) tt)

pub less-false : {a b : ℤ} → less a b ≡ false → b ≤ℤ a
unfolding less
less-false e = lt_z_no (subst (λ (t : Bool). T (not t)) (sym e) tt)

-- ---- a number shifted above zero

-- on which side of zero n is, by the test of its bits
module _ {n : ℤ} (f : SFits w64 n) where
  pub below-zero : lt_z (bits n) (pos 0) ≡ true → n <ℤ pos 0
  below-zero t = lt_z_yes (rw (← to_z-of_z f, t) tt)

  pub not-below-zero : lt_z (bits n) (pos 0) ≡ false → pos 0 ≤ℤ n
  not-below-zero t = lt_z_no (rw (← to_z-of_z f, t) tt)

from-minus : (a : ℕ) → negsuc 0 -ℤ negsuc a ≡ pos a
from-minus a = omega (split, split-sub (negsuc 0) (negsuc a))

-- below zero: by − 1 − (−1 − z)
pub record Lowered (z : ℤ) (by : ℕ) : Type 0 where
  pub some : 1 ≤ by
  pub fits : SFits w64 (negsuc 0 -ℤ bits z)
  pub cast : T (non_neg (bits (negsuc 0 -ℤ bits z))) × Fits w64 (nat_abs (bits (negsuc 0 -ℤ bits z)))
  pub room : nat_abs (bits (negsuc 0 -ℤ bits z)) ≤ by - 1
  pub is : pos (by - 1 - nat_abs (bits (negsuc 0 -ℤ bits z))) ≡ pos by +ℤ z

pub lowered : {z : ℤ} {by : ℕ} → SFits w64 z → z <ℤ pos 0 → Under z by → Lowered z by
lowered {z = pos a} f h u = absurd (omega split)
lowered {z = negsuc a} {by} f h u =
    let g : SFits w64 (pos a) = record { sfits = f.sfits } in
    record {
      some = omega (arith, u.under);
      fits = rw (to_z-of_z f, from-minus a) g;
      cast = rw (to_z-of_z f, from-minus a, to_z-of_z g) (tt, record { fits = omega (arith, f.sfits) });
      room = rw (to_z-of_z f, from-minus a, to_z-of_z g) (omega (arith, u.under));
      is = rw (to_z-of_z f, from-minus a, to_z-of_z g) (omega (split, u.under, split-add (pos by) (negsuc a)));
    }

-- else by + z
pub record Raised (z : ℤ) (by : ℕ) : Type 0 where
  pub cast : T (non_neg (bits z)) × Fits w64 (nat_abs (bits z))
  pub fits : Fits w64 (by + nat_abs (bits z))
  pub is : pos (by + nat_abs (bits z)) ≡ pos by +ℤ z

pub raised : {z : ℤ} {by : ℕ} → SFits w64 z → pos 0 ≤ℤ z → by < 2 ^ 63 → Raised z by
raised {z = negsuc a} f h l = absurd h.le
raised {z = pos a} {by} f h l =
    record {
      cast = rw (to_z-of_z f) (tt, record { fits = omega (arith, f.sfits) });
      fits = rw (to_z-of_z f) (record { fits = omega (arith, f.sfits) });
      is = rw (to_z-of_z f) refl;
    }

-- ---- and back: n − k is r

pub record Back (n k : ℕ) (r : ℤ) : Type 0 where
  pub cast : SFits w64 (pos n)
  pub times : SFits w64 (pos k)
  pub fits : SFits w64 (to_z w64 n -ℤ to_z w64 k)
  pub is : bits (to_z w64 n -ℤ to_z w64 k) ≡ r

pub back : {n k : ℕ} {r : ℤ} → pos n ≡ pos k +ℤ r → Under r k → 2 * k < 2 ^ 63 → Back n k r
back {n} {k} {r} e u l =
    let a = split-add (pos k) r in
    let b = split-abs r in
    let f : SFits w64 (pos n) = record { sfits = omega (arith, rw (← e) at a, b, u.under) } in
    let g : SFits w64 (pos k) = record { sfits = omega arith } in
    let d : pos n -ℤ pos k ≡ r = omega (split, split-sub (pos n) (pos k), rw (← e) at a) in
    let h : SFits w64 r = fits-parts r (above r) (below r) (omega arith) (omega (arith, b, u.under)) (omega (arith, b, u.under)) in
    record {
      cast = f;
      times = g;
      fits = rw (to_z-of_z f, to_z-of_z g, d) h;
      is = rw (to_z-of_z f, to_z-of_z g, d) (to_z-of_z h);
    }

-- ---- a division by d, shifted by k multiples of it

module _ {z : ℤ} {d k : ℕ} (w : Divides z d k) where
  pub some : 0 < d
  some = omega (arith, w.some)

  pub shift_small : k * d + (d - 1) < 2 ^ 63
  shift_small = omega (arith, w.some, w.room)

  pub shift-under : Under z (k * d + (d - 1))
  shift-under = under-weaken w.within (omega arith)

  twice : 2 * k < 2 ^ 63
  twice = omega (arith, w.room, mul-le-mul_left k w.some, w.some)

  pub floor-back : {q : ℕ} → pos q ≡ pos (k * d) +ℤ z → Back (q / d) k (floor_div z d)
  unfolding floor_div
  floor-back e = back (ap (λ (x : ℤ). floor_div x d) e ∙ floor-shift (pos k) z some) (under-floor-to k some (omega arith) w.within) twice

  apart : pos (k * d + (d - 1)) +ℤ z ≡ pos (k * d) +ℤ (pos (d - 1) +ℤ z)
  apart =
      omega (
        split,
        split-add (pos (k * d + (d - 1))) z,
        split-add (pos (d - 1)) z,
        split-add (pos (k * d)) (pos (d - 1) +ℤ z),
      )

  pub ceil-back : {q : ℕ} → pos q ≡ pos (k * d + (d - 1)) +ℤ z → Back (q / d) k (ceil_div z d)
  unfolding floor_div
  ceil-back e =
      back
      (ap (λ (x : ℤ). floor_div x d) (e ∙ apart) ∙ floor-shift (pos k) (pos (d - 1) +ℤ z) some
      ∙ ap (λ (x : ℤ). pos k +ℤ x) (ceil-is-floor z some))
      (under-ceil-to k some (omega arith) w.within) twice
