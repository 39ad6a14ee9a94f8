-- What stands behind the first n lines.
use Rattle.std.specs.Prelude.{ℕ, zero, suc, List}
use Rattle.text_lines.specs.Lines.{after_line}

unfoldable pub after_lines : ℕ → List ℕ → List ℕ
after_lines zero bs = bs
after_lines (suc n) bs = after_lines n (after_line bs)
