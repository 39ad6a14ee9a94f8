-- Bytes cut into lines: after each line feed. What follows the last line feed is a line too, where it is not empty.
use Rattle.std.specs.Prelude.{ℕ, zero, suc, true, false, List, [], ◌∷◌, ◌++◌, eqb}

abbrev pub line_feed : ℕ
line_feed = 10

-- the first line, with its line feed, and the bytes after it
unfoldable pub first_line : List ℕ → List ℕ
first_line [] = []
first_line (b ∷ bs) = elim (eqb b line_feed) [ true ↦ b ∷ [] | false ↦ b ∷ first_line bs ]

unfoldable pub after_line : List ℕ → List ℕ
after_line [] = []
after_line (b ∷ bs) = elim (eqb b line_feed) [ true ↦ bs | false ↦ after_line bs ]

-- the first n lines, and the bytes after them
unfoldable pub first_lines : ℕ → List ℕ → List ℕ
first_lines zero bs = []
first_lines (suc n) bs = first_line bs ++ first_lines n (after_line bs)

-- a byte before the first of some lines
unfoldable pub ahead : ℕ → List (List ℕ) → List (List ℕ)
ahead b [] = (b ∷ []) ∷ []
ahead b (l ∷ ls) = (b ∷ l) ∷ ls

-- all lines
unfoldable pub lines : List ℕ → List (List ℕ)
lines [] = []
lines (b ∷ bs) = elim (eqb b line_feed) [ true ↦ (b ∷ []) ∷ lines bs | false ↦ ahead b (lines bs) ]
