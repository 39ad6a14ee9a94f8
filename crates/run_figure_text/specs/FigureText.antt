-- A figure as text, "A probability prints five decimals", an expectancy two (E11) and a price one; and its steps read back from it.
use Rattle.std.specs.Prelude.{List, [], ◌∷◌, ◌++◌, ℕ, zero, suc, ◌+◌, ◌/◌, ◌%◌, ◌^◌}
use Rattle.text_tokens.specs.Text.{bytes_of, Parse, take_text, and_then}
use Rattle.text_tokens.specs.Number.{zero_digit, unsigned_text, read_unsigned, read_digits}
use Rattle.number_exact.specs.declared.Figure.{Figure}
use Rattle.number_exact.specs.declared.Figure.TheVariants.{Printed, Open}

-- the last digits of n, so many
unfoldable pub last_digits : ℕ → ℕ → List ℕ
last_digits zero n = []
last_digits (suc d) n = last_digits d (n / 10) ++ ((zero_digit + n % 10) ∷ [])

-- n steps of 1/10ᵈ: the whole part, the point and d decimals
unfoldable pub steps_text : ℕ → ℕ → List ℕ
steps_text d n = unsigned_text (n / 10 ^ d) ++ (bytes_of "." ++ last_digits d n)

-- a figure's number of steps, or `open`
unfoldable pub figure_text : ℕ → Figure → List ℕ
figure_text d (Printed n) = steps_text d n
figure_text d Open = bytes_of "open"

-- a figure with its name, as it follows a query
unfoldable pub shown_text : ℕ → Figure → List ℕ
shown_text d figure = bytes_of " fig=" ++ figure_text d figure

-- ---- read back

-- a number without a sign, a point and d digits: the number that the digits stand for with the point left out
unfoldable pub read_steps : ℕ → List ℕ → Parse ℕ
read_steps d bs =
    and_then (read_unsigned bs) (λ v after.
    and_then (take_text (bytes_of ".") after) (λ u rest. read_digits v d rest))
