-- What the proofs about signed numbers and two ends share: sums, products and quotients as the code forms them, in 64 bits.
use mathlib.Core.Path.{◌≡◌, refl}
use mathlib.Core.Bool.{Bool, true, false, cond}
use Prim.Native.Nat.{ℕ}
use lib.IntN.{ℤ, ◌+ℤ◌, ◌-ℤ◌, ◌*ℤ◌}
use lib.Signed.{non_neg}
use mir.Syntax.{w64}
use mir.Val.{SFits}
use mir.Facts.{to_z-of_z}
use Rattle.number_whole.specs.Division.{floor_div, ceil_div}
use Rattle.number_whole.proofs.laws.Bound.{bits, fits-floor, fits-ceil}
use Rattle.number_whole.specs.declared.SignedEnds.{SignedEnds}

-- a number that is z is read as z, and so are its floor and its ceiling
pub read : {r z : ℤ} → r ≡ z → SFits w64 z → bits r ≡ z
read e h = rw e (to_z-of_z h)

pub read-floor : {q y z : ℤ} (m : ℕ) → y ≡ z → SFits w64 z → q ≡ floor_div y m → bits q ≡ floor_div z m
read-floor m e h d = read (rw e at d) (fits-floor m h)

pub read-ceil : {q y z : ℤ} (m : ℕ) → y ≡ z → SFits w64 z → q ≡ ceil_div y m → bits q ≡ ceil_div z m
read-ceil m e h d = read (rw e at d) (fits-ceil m h)

-- a sum or a product of x and y, which are read as a and b: where it fits it does not overflow, and is read as it is
pub sum : {x y a b z : ℤ} → x ≡ a → y ≡ b → z ≡ a +ℤ b → SFits w64 z → SFits w64 (x +ℤ y) × (bits (x +ℤ y) ≡ z)
sum f g e h = rw (f, g, ← e) (h, to_z-of_z h)

pub product : {x y a b z : ℤ} → x ≡ a → y ≡ b → z ≡ a *ℤ b → SFits w64 z → SFits w64 (x *ℤ y) × (bits (x *ℤ y) ≡ z)
product f g e h = rw (f, g, ← e) (h, to_z-of_z h)

-- and a difference
pub minus : {x y a b : ℤ} → x ≡ a → y ≡ b → SFits w64 (a -ℤ b) → SFits w64 (x -ℤ y) × (bits (x -ℤ y) ≡ a -ℤ b)
minus f g h = rw (f, g) (h, to_z-of_z h)

-- two ends that are those of e
pub both_ends : {l u : ℤ} {e : SignedEnds} → l ≡ e.lower → u ≡ e.upper → record { lower = l; upper = u } ≡ e
both_ends f g = rw (f, g)

-- the code's two ends fit
pub record EndsFit (e : SignedEnds) : Type 0 where
  pub lower : SFits w64 e.lower
  pub upper : SFits w64 e.upper

-- the product of c with the end that its sign chooses: l, and u where c is negative. Where the definition's choice fits, the
-- code's does, and is read as it.
chosen : (b : Bool) (c l u : ℤ) → cond b (c *ℤ l) (c *ℤ u) ≡ c *ℤ cond b l u
chosen true c l u = refl
chosen false c l u = refl

pub choice : {c l u r : ℤ} → SFits w64 c → SFits w64 l → SFits w64 u → r ≡ cond (non_neg (bits c)) (bits l) (bits u)
    → SFits w64 (cond (non_neg c) (c *ℤ l) (c *ℤ u))
    → SFits w64 (bits c *ℤ bits r) × (bits (bits c *ℤ bits r) ≡ cond (non_neg c) (c *ℤ l) (c *ℤ u))
choice {c} {l} {u} f fl fu e h =
    product (to_z-of_z f) (read (rw (to_z-of_z f, to_z-of_z fl, to_z-of_z fu) at e) (either (non_neg c))) (chosen (non_neg c) c l u) h
  where
    either : (b : Bool) → SFits w64 (cond b l u)
    either true = fl
    either false = fu
