-- q of a cell, by the definition of its p.
use Rattle.std.specs.Prelude.{ℕ}
use Rattle.number_exponential.specs.Grid.{Grid}
use Rattle.number_exponential.specs.declared.Ends.{Ends}
use Rattle.set_params.specs.declared.Params.{Params}
use Rattle.model_force.specs.Force.{death_of}
use Rattle.model_mortality.specs.Cell.{whole_year, survival}

-- "q = 10^9 − p, ends exchanged"
unfoldable pub death : Grid → Params → ℕ → ℕ → Ends
death g p x n = death_of g (survival g p x n whole_year)
