-- What the code's results say was read.
use Rattle.std.specs.Prelude.{ℕ, Option, None, Some, List, [], drop}
use Rattle.text_tokens.specs.Text.{Parse, malformed, taken}
use Rattle.quote_couple_kinds.specs.declared.CoupleKind.{CoupleKind}
use Rattle.run_couple_query.specs.declared.CoupleQuery.{CoupleQuery}

-- a kind, and the bytes from the place after it on
abbrev pub couple_kind_read : List ℕ → Option (CoupleKind × ℕ) → Parse CoupleKind
couple_kind_read bytes None = malformed
couple_kind_read bytes (Some (kind, next)) = taken kind (drop next bytes)

abbrev pub couple_read : Option CoupleQuery → Parse CoupleQuery
couple_read None = malformed
couple_read (Some q) = taken q []
