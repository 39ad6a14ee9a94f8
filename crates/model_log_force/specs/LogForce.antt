-- The log force on a grid (paper 01, "The grid"; 001, section 5). Years are counted from the start year.
use Rattle.std.specs.Prelude.{ℕ, Bool, ◌&&◌, ℤ, pos, neg_ℤ, ◌+ℤ◌, ◌*ℤ◌}
use Rattle.std.specs.Int.Signed.{le_z}
use Rattle.number_whole.specs.declared.SignedEnds.{SignedEnds}
use Rattle.number_whole.specs.SignedEnds.{least_product, greatest_product, outward, shifted}
use Rattle.number_exponential.specs.Grid.{Grid}
use Rattle.set_params.specs.declared.Params.{Params}
use Rattle.set_params.specs.declared.Age.{Age}
use Rattle.set_params.specs.Set.{age_of}
use Rattle.set_series.specs.Series.{coefficient_unit, in_grid, period_index, kappa}

-- "Log force m at ages 0 to 90: A + alpha + (B·K + beta·kappa)/10^8, outward."
unfoldable pub cell_force : Grid → Age → ℤ → SignedEnds → SignedEnds
cell_force g a period kappas =
    let b = in_grid g (a.slope *ℤ period) in
    shifted (in_grid g (a.level +ℤ a.alpha))
    (outward (b +ℤ least_product a.beta kappas) (b +ℤ greatest_product a.beta kappas) coefficient_unit)

unfoldable pub log_force : Grid → Params → ℕ → ℕ → SignedEnds
log_force g p x n = cell_force g (age_of p x) (period_index p n) (kappa g p n)

-- "A needed cell must have its lower end at or above −30,000,000,000 and its upper end at or below −700,000,000."
abbrev pub lowest_force : ℤ
lowest_force = neg_ℤ (pos 30000000000)

abbrev pub highest_force : ℤ
highest_force = neg_ℤ (pos 700000000)

unfoldable pub in_range : Grid → SignedEnds → Bool
in_range g m = le_z (in_grid g lowest_force) m.lower && le_z m.upper (in_grid g highest_force)
