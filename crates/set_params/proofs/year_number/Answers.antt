-- `year_number` meets its contract: a start that is at least 0 is taken from a year that is no less, and does not overflow.
use mathlib.Core.Path.{◌≡◌, ap, sym, ◌∙◌}
use Prim.Native.Nat.{ℕ, ◌-◌}
use native.Mathlib.Omega.{arith}
use lib.IntN.{ℤ, pos, negsuc, nat_abs, ◌-ℤ◌}
use lib.Signed.{◌≤ℤ◌}
use mir.Syntax.{w64}
use mir.Val.{SFits}
use mir.Facts.{to_z-of_z}
use Rattle.number_whole.proofs.laws.Bound.{bits}
use Rattle.number_whole.proofs.laws.Split.{split, split-sub}
use Rattle.set_params.specs.Set.{year_number}
use Rattle.set_params.proofs.year_number.Goals as goal

-- the difference is a natural number, and as small as the year
module _ (c : goal.Start) where
  abbrev n : ℕ
  n = nat_abs c.args.year - nat_abs c.args.start

  apart : (c.args.year -ℤ c.args.start ≡ pos n) × SFits w64 (pos n)
  apart = go c.args.start c.args.year c.requires.0 c.requires.1 c.ranges.year
    where
      go : (s y : ℤ) → pos 0 ≤ℤ s → s ≤ℤ y → SFits w64 y
          → (y -ℤ s ≡ pos (nat_abs y - nat_abs s)) × SFits w64 (pos (nat_abs y - nat_abs s))
      go (pos s) (pos y) h l f = (omega (split, split-sub (pos y) (pos s)), record { sfits = omega (arith, f.sfits) })
      go (pos s) (negsuc y) h l f = absurd l.le
      go (negsuc s) y h l f = absurd h.le

  -- as it is read
  read : SFits w64 (bits c.args.year -ℤ bits c.args.start) × (bits (bits c.args.year -ℤ bits c.args.start) ≡ pos n)
  read = rw (to_z-of_z c.ranges.year, to_z-of_z c.ranges.start, apart.0) (apart.1, to_z-of_z apart.1)

pub overflow_sub-result : goal.overflow_sub-result
overflow_sub-result c = (read c).0

pub overflow_cast-result : goal.overflow_cast-result
overflow_cast-result c = rw (read c).1 (tt, record { fits = omega (arith, (apart c).1.sfits) })

pub returns : goal.returns
unfolding year_number
returns c = ap nat_abs ((read c).1 ∙ sym (apart c).0)
