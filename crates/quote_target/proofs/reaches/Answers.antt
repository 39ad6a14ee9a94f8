-- `reaches` meets its contract: a target below 0 is reached by any end, another is compared.
use mathlib.Core.Path.{◌≡◌, refl, sym}
use mathlib.Core.Bool.{true, false}
use Prim.Native.Nat.{ℕ}
use lib.Dec.{leb}
use lib.IntN.{ℤ, pos, nat_abs}
use mir.Facts.{to_z-of_z}
use Rattle.number_whole.proofs.laws.Sign.{Sign, minus, plain, sign}
use Rattle.quote_kinds.proofs.Casts.{cast-whole}
use Rattle.quote_target.specs.Target.{reaches}
use Rattle.quote_target.proofs.reaches.Goals as goal

below : {z : ℤ} → Sign z true → (e : ℕ) → reaches z e ≡ true
unfolding reaches
below (minus n) e = refl

whole : {z : ℤ} → Sign z false → pos (nat_abs z) ≡ z
whole (plain n) = refl

compared : {z : ℤ} → Sign z false → (e : ℕ) → leb (nat_abs z) e ≡ reaches z e
unfolding reaches
compared (plain n) e = refl

plain-sign : (c : goal.Else-target-lt0) → Sign c.before.args.target false
plain-sign c = sign c.before.args.target (rw (to_z-of_z c.before.ranges.target) at c.if-target-lt0.false)

pub returns-then-target-lt0 : goal.returns-then-target-lt0
returns-then-target-lt0 c =
    let s = c.before in
    sym (below (sign s.args.target (rw (to_z-of_z s.ranges.target) at c.if-target-lt0.true)) s.args.end)

pub overflow_cast-result : goal.overflow_cast-result
overflow_cast-result c = cast-whole c.before.ranges.target (whole (plain-sign c))

pub returns : goal.returns
returns c = let s = c.before in rw (to_z-of_z s.ranges.target) (compared (plain-sign c) s.args.end)
