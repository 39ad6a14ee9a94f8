-- The longest answer of any mode.
use Rattle.std.specs.Prelude.{ℕ}

-- no answer is longer, whichever the mode
abbrev pub most_line : ℕ
most_line = 191
