-- The lines after the first two, and those of the start and c.
use Rattle.std.specs.Prelude.{ℕ, List, [], ◌∷◌, ℤ, pos}
use Rattle.text_tokens.specs.Text.{bytes_of, Parse, malformed, taken}
use Rattle.set_params.specs.declared.Params.{Params}
use Rattle.set_params.specs.declared.Table.{Table}
use Rattle.set_params.specs.declared.Table.TheVariants.{Ag2014, LiLee}
use Rattle.set_params.specs.declared.Sex.{Sex}
use Rattle.set_params.specs.Limits.{first_start}
use Rattle.sheet.specs.Sheet.{keys, read_lines, completed, params_of}

-- the lines after the first two
unfoldable pub from_lines : Table → Sex → List ℕ → Parse Params
from_lines table sex bs =
    elim (read_lines (keys table) bs)
    [ malformed ↦ malformed | taken vs rest ↦ taken (params_of table sex (completed table vs)) rest ]

-- the start and c: those of their lines, which only a sheet of LILEE has
unfoldable pub read_start : Table → List ℕ → Parse (List ℤ)
read_start Ag2014 bs = taken (pos first_start ∷ pos 0 ∷ []) bs
read_start LiLee bs = read_lines (bytes_of "start" ∷ bytes_of "c" ∷ []) bs
