-- The end that a factor's sign chooses, of two ends within kappa's limit on a grid: how far from 0 it lies, and as the code reads it.
use mathlib.Core.Path.{◌≡◌}
use Prim.Native.Nat.{◌*◌}
use lib.IntN.{ℤ}
use lib.Signed.{non_neg}
use Rattle.number_whole.specs.code.Sizes.{Under}
use Rattle.number_whole.proofs.laws.Bound.{bits, fits, back, under-cond}
use Rattle.number_whole.proofs.Signed.{read}
use Rattle.number_exponential.specs.declared.GridUnit.{GridUnit}
use Rattle.number_exponential.specs.Units.{grid_of}
use Rattle.number_exponential.proofs.laws.Scales.{under-scaled}
use Rattle.set_params.specs.Limits.{a_limit, kappa_limit}
use Rattle.set_series.proofs.laws.Mixed.{end_by}

module _ (u : GridUnit) {c : ℤ} (l : Under c a_limit) {end other : ℤ} (h : Under end ((grid_of u).scale * kappa_limit))
    (k : Under other ((grid_of u).scale * kappa_limit)) where
  pub chosen-under : Under (end_by c end other) ((grid_of u).scale * kappa_limit)
  chosen-under = under-cond (non_neg c) h k

  pub chosen-read : {r : ℤ} → r ≡ end_by (bits c) (bits end) (bits other) → bits r ≡ end_by c end other
  chosen-read f =
      read (rw (back l tt, back (under-scaled u kappa_limit h) tt, back (under-scaled u kappa_limit k) tt) at f)
      (fits (under-scaled u kappa_limit chosen-under) tt)
