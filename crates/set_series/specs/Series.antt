-- The time series on a grid (paper 01, "The grid"; 02, E7; 001, section 2). Years are counted from the start year: year n is
-- start + n.
use Rattle.std.specs.Prelude.{ℕ, zero, suc, ℤ, pos, ◌+ℤ◌, ◌*ℤ◌}
use Rattle.number_whole.specs.declared.SignedEnds.{SignedEnds}
use Rattle.number_whole.specs.SignedEnds.{least_product, greatest_product, outward, shifted}
use Rattle.number_exponential.specs.Grid.{Grid}
use Rattle.set_params.specs.declared.Params.{Params}
use Rattle.set_params.specs.declared.Dynamics.{Dynamics}
use Rattle.set_params.specs.Set.{dynamics_of}

-- the unit of a, B and beta: 10^-8
abbrev pub coefficient_unit : ℕ
coefficient_unit = 100000000

-- a number of a set, in units of 10^-9, in a grid's units
unfoldable pub in_grid : Grid → ℤ → ℤ
in_grid g z = pos g.scale *ℤ z

-- "K in year t is K + (t − 2013)·theta, exactly."
unfoldable pub period_in : ℤ → ℤ → ℕ → ℤ
period_in start theta n = start +ℤ pos n *ℤ theta

abbrev pub period_index : Params → ℕ → ℤ
period_index p n = period_in p.period p.theta n

-- "Kappa starts exact; each year it is multiplied by a and divided by 10^8, outward." A constant c, "added exactly after each
-- year's product".
unfoldable pub kappa_step : Grid → Dynamics → SignedEnds → SignedEnds
kappa_step g d e = shifted (in_grid g d.c) (outward (least_product d.a e) (greatest_product d.a e) coefficient_unit)

unfoldable pub kappa_in : Grid → Dynamics → ℤ → ℕ → SignedEnds
kappa_in g d start zero = record { lower = in_grid g start; upper = in_grid g start }
kappa_in g d start (suc n) = kappa_step g d (kappa_in g d start n)

abbrev pub kappa : Grid → Params → ℕ → SignedEnds
kappa g p n = kappa_in g (dynamics_of p) p.kappa n
