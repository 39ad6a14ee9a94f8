-- Both grids have what the logarithm's laws ask of a grid, by computation.
use Rattle.std.specs.Prelude.{suc, ◌*◌, ◌^◌, ◌≤◌, ◌<◌}
use Rattle.std.proofs.Common.{lit≤, lit<}
use Rattle.number_exponential.specs.declared.GridUnit.{GridUnit}
use Rattle.number_exponential.specs.declared.GridUnit.TheVariants.{Coarse, Fine}
use Rattle.number_exponential.specs.Units.{grid_of}
use Rattle.model_logarithm.proofs.laws.WidthFacts as facts

pub unit-fine : (u : GridUnit) → facts.Fine (grid_of u)
unfolding grid_of
unit-fine u =
    record {
      terms-positive = elim u as (λ v. 0 < (grid_of v).log_terms) [ Coarse ↦ lit< tt | Fine ↦ lit< tt ];
      rest-small = elim u as (λ v. (grid_of v).unit ≤ 2 ^ suc (grid_of v).log_terms * suc (grid_of v).log_terms) [ Coarse ↦ lit≤ tt | Fine ↦ lit≤ tt ];
    }
