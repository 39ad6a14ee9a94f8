-- `line_len` meets its contract: the key, the number, `=` and the line feed.
use mathlib.Core.Path.{◌≡◌, ap, ◌∙◌}
use native.Mathlib.Omega.{arith}
use lib.IntN.{ℤ}
use lib.ListN.{length}
use mir.Facts.{to_z-of_z}
use Rattle.text_tokens.specs.Number.{number_text}
use Rattle.text_printing.specs.laws.NumberLengths.{number-length}
use Rattle.sheet_length.proofs.line_len.Goals as goal

-- the number's length
number : (c : goal.After-number_len) → c.number_len.result ≡ length (number_text c.before.args.v)
number c = c.number_len.ensures ∙ ap (λ (v : ℤ). length (number_text v)) (to_z-of_z c.before.ranges.v)

pub overflow_add-result : goal.overflow_add-result
overflow_add-result c = omega (arith, number c, number-length c.before.args.v)

pub overflow_add-result-2 : goal.overflow_add-result-2
overflow_add-result-2 c = omega (arith, number c, number-length c.before.args.v)

pub returns : goal.returns
returns c = omega (arith, number c, number-length c.before.args.v)
