-- What the code of a log force asks and promises: the bounds of what it is formed of, its width, and its size where it is in range.
use Rattle.std.specs.Prelude.{◌≡◌, ℕ, ◌+◌, ◌*◌, ◌≤◌, ℤ, pos, neg_ℤ}
use Rattle.number_whole.specs.Parts.{below}
use Rattle.number_whole.specs.declared.SignedEnds.{SignedEnds}
use Rattle.number_whole.specs.code.Sizes.{Under, Within}
use Rattle.number_exponential.specs.Grid.{Grid}
use Rattle.set_params.specs.declared.Age.{Age}
use Rattle.set_params.specs.Limits.{period_limit, kappa_limit}
use Rattle.set_params.specs.code.Within.{AgeWithin}
use Rattle.model_log_force.specs.LogForce.{lowest_force, highest_force}

-- what the log force of a cell is formed of is in its limits
pub record CellLimits (g : Grid) (a : Age) (k : ℤ) (e : SignedEnds) : Type 0 where
  pub age : AgeWithin a
  pub period : Under k period_limit
  pub kappas : Within (g.scale * kappa_limit) e

-- the greatest width of a log force in the years of a quote, in units
abbrev pub log_force_width : ℕ
log_force_width = 19

-- the ends of z = −m
pub record Negated (g : Grid) (m : SignedEnds) (w : ℕ) : Type 0 where
  pub least : g.scale * below highest_force ≤ below m.upper
  pub most : below m.lower ≤ g.scale * below lowest_force
  pub ordered : below m.upper ≤ below m.lower
  pub width : below m.lower ≤ below m.upper + w
  pub lower : neg_ℤ m.lower ≡ pos (below m.lower)
  pub upper : neg_ℤ m.upper ≡ pos (below m.upper)
