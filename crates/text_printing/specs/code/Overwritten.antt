-- A list of bytes with a text written over a part of it.
use Rattle.std.specs.Prelude.{ℕ, ◌+◌, List, ◌++◌, length, take, drop}

-- the bytes with a text written over them from a place on
unfoldable pub overwritten : List ℕ → ℕ → List ℕ → List ℕ
overwritten bytes at text = take at bytes ++ (text ++ drop (at + length text) bytes)
