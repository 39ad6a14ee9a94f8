-- What the code's results say was read.
use Rattle.std.specs.Prelude.{ℕ, Bool, Option, None, Some, List, [], drop}
use Rattle.text_tokens.specs.Text.{Parse, malformed, taken, is_taken}
use Rattle.quote_kinds.specs.declared.Kind.{Kind}
use Rattle.run_query.specs.declared.Query.{Query}
use Rattle.run_query.specs.Query.{ended}

-- a kind, and the bytes from the place after it on
abbrev pub kind_read : List ℕ → Option (Kind × ℕ) → Parse Kind
kind_read bytes None = malformed
kind_read bytes (Some (kind, next)) = taken kind (drop next bytes)

abbrev pub query_read : Option Query → Parse Query
query_read None = malformed
query_read (Some q) = taken q []

-- whether a line ends, whatever was read of it
unfoldable pub line_ends : List ℕ → Bool
line_ends bs = is_taken (ended {A = Unit} tt bs)
