-- Rows that are proved by computing: the two kinds of path over three years, from age 65 in year 11, and from age 119, which
-- passes 120.
use Rattle.std.specs.Prelude.{◌≡◌, refl, true, false, [], ◌∷◌, ℕ}
use Rattle.number_whole.specs.Listed.{listed}
use Rattle.model_mortality.specs.Cell.{whole_year}
use Rattle.quote_paths.specs.Path.{place_at, path_of, Place}

abbrev cell : ℕ → ℕ → Place
cell x n = record { age = x; year = n; part = whole_year }

rows : (path_of true 65 11 3 ≡ cell 65 11 ∷ cell 66 12 ∷ cell 67 13 ∷ [])
    × (path_of false 65 11 3 ≡ cell 65 11 ∷ cell 66 11 ∷ cell 67 11 ∷ [])
    × (path_of true 119 11 3 ≡ cell 119 11 ∷ cell 120 12 ∷ cell 120 13 ∷ [])
    × (path_of false 119 11 3 ≡ cell 119 11 ∷ cell 120 11 ∷ cell 120 11 ∷ [])
unfolding path_of place_at listed
rows = (refl, refl, refl, refl)
