-- A line without its key.
use Rattle.std.specs.Prelude.{List, ◌++◌, ℕ, ℤ}
use Rattle.text_tokens.specs.Text.{bytes_of}
use Rattle.text_tokens.specs.Number.{number_text}

-- what follows a line's key
unfoldable pub value_text : ℤ → List ℕ
value_text v = bytes_of "=" ++ (number_text v ++ bytes_of "\n")
