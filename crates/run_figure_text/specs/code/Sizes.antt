-- A figure that has room for its digits: what the writers ask for, and less than that, as every quote's has.
use Rattle.std.specs.Prelude.{ℕ, ◌^◌, ◌<◌}
use Rattle.text_tokens.specs.Number.{most_digits}
use Rattle.number_exact.specs.declared.Figure.{Figure}
use Rattle.number_exact.specs.declared.Figure.TheVariants.{Printed, Open}

-- steps of at most 15 digits
unfoldable pub Printable : Figure → Type 0
Printable (Printed n) = n < 10 ^ most_digits
Printable Open = Unit

-- of at most 8 digits
abbrev pub few_digits : ℕ
few_digits = 8

unfoldable pub Short : Figure → Type 0
Short (Printed n) = n < 10 ^ few_digits
Short Open = Unit
