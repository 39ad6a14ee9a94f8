-- `end_by` meets its contract: the code's test is the sign of c.
use mathlib.Core.Path.{◌≡◌, refl, ◌∙◌}
use mathlib.Core.Bool.{Bool, cond}
use lib.IntN.{ℤ}
use lib.Signed.{non_neg}
use mir.Facts.{to_z-of_z}
use Rattle.number_whole.proofs.laws.Sign.{Sign, minus, plain, sign}
use Rattle.number_whole.proofs.end_by.Goals as goal

chosen : {c : ℤ} {b : Bool} (l u : ℤ) → Sign c b → cond b u l ≡ cond (non_neg c) l u
chosen l u (minus n) = refl
chosen l u (plain n) = refl

pub returns-then-c-lt0 : goal.returns-then-c-lt0
returns-then-c-lt0 c =
    let s = c.before in
    to_z-of_z s.ranges.other ∙ chosen s.args.end s.args.other (sign s.args.c (rw (to_z-of_z s.ranges.c) at c.if-c-lt0.true))

pub returns : goal.returns
returns c =
    let s = c.before in
    to_z-of_z s.ranges.end ∙ chosen s.args.end s.args.other (sign s.args.c (rw (to_z-of_z s.ranges.c) at c.if-c-lt0.false))
