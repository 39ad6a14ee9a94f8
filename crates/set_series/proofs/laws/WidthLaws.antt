-- How wide kappa is: it widens by at most a unit a year.
use Rattle.std.specs.Prelude.{ℕ, zero, suc, ℤ, pos}
use Rattle.std.proofs.Common.{arith, lit<}
use Rattle.number_whole.proofs.laws.Split.{split, split-add}
use Rattle.number_whole.specs.declared.SignedEnds.{SignedEnds}
use Rattle.number_whole.proofs.laws.EndLaws.{Wide, product-width, outward-width, sum-wide}
use Rattle.number_exponential.specs.Grid.{Grid}
use Rattle.set_params.specs.declared.Dynamics.{Dynamics}
use Rattle.set_params.specs.code.Within.{DynamicsWithin}
use Rattle.set_series.specs.Series.{in_grid, kappa_step, kappa_in}

pub kappa_step-wide : (g : Grid) {d : Dynamics} {e : SignedEnds} {w : ℕ} → DynamicsWithin d → Wide e.lower e.upper w
    → Wide (kappa_step g d e).lower (kappa_step g d e).upper (suc w)
unfolding kappa_step
kappa_step-wide g {d} {w} l h = sum-wide (in_grid g d.c) (outward-width (suc w) (lit< tt) (product-width l.a h) (omega arith))

pub kappa-wide : (g : Grid) {d : Dynamics} (start : ℤ) (n : ℕ) → DynamicsWithin d
    → Wide (kappa_in g d start n).lower (kappa_in g d start n).upper n
unfolding kappa_in
kappa-wide g start zero l = record { ordered = omega split; width = omega (split, split-add (in_grid g start) (pos 0)) }
kappa-wide g start (suc n) l = kappa_step-wide g l (kappa-wide g start n l)
