-- The parts of a sheet, in their order: the first two lines, the lines of the series, those of the start and c where the table has
-- them, and four lines for each age.
use Rattle.std.specs.Prelude.{List, [], ◌∷◌, ℕ, ◌+◌, ℤ, length}
use Rattle.text_tokens.specs.Text.{bytes_of}
use Rattle.text_tokens.specs.Number.{number_text}
use Rattle.set_params.specs.declared.Params.{Params}
use Rattle.set_params.specs.declared.Table.{Table}
use Rattle.set_params.specs.declared.Age.{Age}
use Rattle.sheet.specs.Sheet.{for_ages, age_keys, if_li_lee, age_values, lines_text}

-- how many bytes a line has: its key, `=`, the number and a line feed
abbrev pub line_length : ℕ → ℤ → ℕ
line_length key v = key + length (number_text v) + 2

-- the lines of a, theta, K and k
unfoldable pub series_text : Params → List ℕ
series_text p =
    lines_text (bytes_of "a" ∷ bytes_of "theta" ∷ bytes_of "K" ∷ bytes_of "k" ∷ [])
    (p.a ∷ p.theta ∷ p.period ∷ p.kappa ∷ [])

-- the lines of the start and c, which only a sheet of LILEE has
unfoldable pub start_text : Table → ℤ → ℤ → List ℕ
start_text t start c = lines_text (if_li_lee t (bytes_of "start" ∷ bytes_of "c" ∷ [])) (if_li_lee t (start ∷ c ∷ []))

-- the four lines of age x, with these numbers
unfoldable pub age_text : Age → ℕ → List ℕ
age_text a x = lines_text (age_keys x) (a.level ∷ a.slope ∷ a.alpha ∷ a.beta ∷ [])

-- the lines of the first n ages
unfoldable pub ages_text : Params → ℕ → List ℕ
ages_text p n = lines_text (for_ages age_keys n) (for_ages (age_values p) n)
