-- The lowest log force in range, and one below it, by computation. The papers' own rows are those of the crate `edges`.
use Rattle.std.specs.Prelude.{◌≡◌, refl, true, false, ℤ, pos, neg_ℤ}
use Rattle.number_whole.specs.declared.SignedEnds.{SignedEnds}
use Rattle.number_exponential.specs.Units.{billionths}
use Rattle.set_series.specs.Series.{in_grid}
use Rattle.model_log_force.specs.LogForce.{in_range}

abbrev ends : ℤ → ℤ → SignedEnds
ends l u = record { lower = l; upper = u }

lower_in : in_range billionths (ends (neg_ℤ (pos 30000000000)) (neg_ℤ (pos 700000000))) ≡ true
unfolding in_range in_grid
lower_in = refl

lower-out : in_range billionths (ends (neg_ℤ (pos 30000000001)) (neg_ℤ (pos 700000000))) ≡ false
unfolding in_range in_grid
lower-out = refl
