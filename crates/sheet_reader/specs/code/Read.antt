-- The reading of a sheet in the steps of the code.
use Rattle.std.specs.Prelude.{ℕ, List}
use Rattle.text_tokens.specs.Text.{Parse, malformed, taken}
use Rattle.set_params.specs.declared.Params.{Params}
use Rattle.set_params.specs.declared.Table.{Table}
use Rattle.sheet.specs.Sheet.{read_sex}
use Rattle.sheet_set.specs.code.SetLines.{from_lines}

-- a sheet of the table from its second line on: its set, and what follows its last line
unfoldable pub from_sex : Table → List ℕ → Parse Params
from_sex table bs = elim (read_sex bs) [ malformed ↦ malformed | taken sex lines ↦ from_lines table sex lines ]
