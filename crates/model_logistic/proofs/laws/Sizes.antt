-- The order of two fractions of one sign as that of their distances from 0.
use Rattle.std.specs.Prelude.{ℕ, suc, ◌<◌, pos, negsuc}
use Rattle.std.proofs.Common.{mul-pos, arith}
use Rattle.number_whole.proofs.laws.Split.{split, split-scale}
use Rattle.number_fraction.specs.Ratio.{◌≤/◌}
use Rattle.number_fraction.specs.Fraction.{◌≤ℚ◌, absolute}
use Rattle.model_logistic.proofs.laws.SignedUnits.{over}

module _ {d e : ℕ} {p : 0 < d} {q : 0 < e} (a b : ℕ) where
  pub both-above : over d p (pos a) ≤ℚ over e q (pos b) → absolute (over d p (pos a)) ≤/ absolute (over e q (pos b))
  unfolding absolute
  both-above h = record { cross = omega (split, h.cross) }

  pub both_below : over d p (negsuc a) ≤ℚ over e q (negsuc b)
      → absolute (over e q (negsuc b)) ≤/ absolute (over d p (negsuc a))
  unfolding absolute
  both_below h = record { cross = omega (split, split-scale (negsuc a) e, split-scale (negsuc b) d, h.cross) }

  -- 0 is not at most a negative fraction
  pub apart : over d p (pos a) ≤ℚ over e q (negsuc b) → ⊥
  apart h = omega (split, split-scale (negsuc b) d, h.cross, mul-pos {m = suc b} {n = d} (omega arith) p)
