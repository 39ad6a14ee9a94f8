-- The grid of a unit that is known.
use Rattle.std.specs.Prelude.{◌≡◌, ◌≤◌}
use Rattle.std.proofs.Common.{ap, lit≤}
use Rattle.number_exponential.specs.Grid.{Grid}
use Rattle.number_exponential.specs.Units.{billionths, grid_of, ten_trillionths}
use Rattle.number_exponential.specs.declared.GridUnit.{GridUnit}
use Rattle.number_exponential.specs.declared.GridUnit.TheVariants.{Coarse, Fine}

pub coarse-grid : {u : GridUnit} → u ≡ Coarse → grid_of u ≡ billionths
unfolding grid_of
coarse-grid e = ap grid_of e

pub fine-grid : {u : GridUnit} → u ≡ Fine → grid_of u ≡ ten_trillionths
unfolding grid_of
fine-grid e = ap grid_of e

-- and units in 1
pub coarse-unit : {u : GridUnit} → u ≡ Coarse → (grid_of u).unit ≡ billionths.unit
coarse-unit e = ap (λ (g : Grid). g.unit) (coarse-grid e)

pub fine-unit : {u : GridUnit} → u ≡ Fine → (grid_of u).unit ≡ ten_trillionths.unit
fine-unit e = ap (λ (g : Grid). g.unit) (fine-grid e)

-- neither unit is less than the coarse one, nor more than the fine one, by which sums of ends fit
pub unit-least : (u : GridUnit) → billionths.unit ≤ (grid_of u).unit
unfolding grid_of
unit-least Coarse = lit≤ tt
unit-least Fine = lit≤ tt

pub unit-most : (u : GridUnit) → (grid_of u).unit ≤ ten_trillionths.unit
unfolding grid_of
unit-most Coarse = lit≤ tt
unit-most Fine = lit≤ tt
