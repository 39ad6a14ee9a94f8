-- q of a cell at order j: 1 less its survival over the whole year, the ends exchanged.
use Rattle.std.specs.Prelude.{ℕ}
use Rattle.number_fraction.specs.Ratio.{complement}
use Rattle.number_fraction.specs.Bracket.{Bracket}
use Rattle.set_params.specs.declared.Params.{Params}
use Rattle.model_mortality.specs.Cell.{whole_year}
use Rattle.model_mortality.specs.Exact.{order_survival}

unfoldable pub order_death : Params → ℕ → ℕ → ℕ → Bracket
order_death p x n j =
    let s = order_survival p x n whole_year j in
    record { least = complement s.most; most = complement s.least }
