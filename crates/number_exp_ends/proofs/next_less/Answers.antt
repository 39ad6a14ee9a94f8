-- `next_less` meets its contract: the quotient of one less, rounded down, is one less than that rounded up.
use mathlib.Core.Path.{◌≡◌}
use Prim.Native.Nat.{ℕ, suc, ◌+◌, ◌-◌, ◌*◌, ◌/◌, ◌<◌}
use native.Mathlib.Nat.{mul-pos}
use native.Mathlib.Omega.{arith}
use Rattle.number_whole.specs.Division.{ceil_div_ℕ}
use Rattle.number_whole.proofs.laws.DivisionLaws.{floorℕ-encloses, ceilℕ-unique}
use Rattle.number_exponential.specs.Exponential.{next_upper}
use Rattle.number_exponential.specs.Units.{grid_of}
use Rattle.number_exp_ends.proofs.next_less.Goals as goal

one_less : (t f d : ℕ) {r : ℕ} → 0 < f → 0 < d → r ≡ (t * f + (f - 1)) / d → suc r ≡ ceil_div_ℕ (suc t * f) d
one_less t f d {r} h p q =
    let e = floorℕ-encloses (t * f + (f - 1)) p in
    rw q (ceilℕ-unique (suc ((t * f + (f - 1)) / d)) (suc t * f) p (omega arith) (omega arith))

pub returns : goal.returns
unfolding next_upper
returns c =
    let s = c.before in
    one_less s.args.t s.args.f _ s.requires.1 (mul-pos s.requires.0.first (grid_of s.args.grid).positive)
    c.next_term.ensures
