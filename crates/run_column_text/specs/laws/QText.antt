-- A probability as it is printed is a q as it is published: five decimals read back as the steps, and one digit stands before
-- the point.
use Rattle.std.specs.Prelude.{◌≡◌, List, [], ◌∷◌, ◌++◌, ℕ, ◌+◌, ◌/◌, ◌^◌, ◌<◌}
use Rattle.std.proofs.Common.{ap, ◌∙◌, arith}
use Rattle.text_tokens.specs.Text.{bytes_of, taken}
use Rattle.text_tokens.specs.laws.TextLaws.{take_text-split}
use Rattle.text_tokens.specs.Number.{zero_digit, value_from, read_digits}
use Rattle.text_tokens.specs.laws.DigitLaws.{digit-between}
use Rattle.text_tokens.specs.laws.DecimalLaws.{text-small}
use Rattle.text_tokens.specs.laws.Steps.{goes}
use Rattle.text_tokens.specs.laws.FixedLaws.{fixed_reads}
use Rattle.run_figure_text.specs.FigureText.{last_digits, steps_text}
use Rattle.run_figure_text.proofs.laws.ReadingLaws.{last-reads, text-apart}
use Rattle.run_column_text.specs.Column.{wholes, decimals, read_q}
use Rattle.run_column_text.specs.code.Code.{most_steps}

-- the one digit of a number below 10
one-reads : (w : ℕ) (rest : List ℕ) → w < 10 → read_digits 0 wholes ((zero_digit + w) ∷ rest) ≡ taken w rest
unfolding value_from
one-reads w rest h =
    fixed_reads 0 ((zero_digit + w) ∷ []) rest (digit-between (zero_digit + w) (omega arith) (omega arith), tt)
    ∙ ap (λ (v : ℕ). taken v rest) (omega arith)

pub q-reads : (n : ℕ) (rest : List ℕ) → n < most_steps → read_q (steps_text decimals n ++ rest) ≡ taken n rest
unfolding read_q
q-reads n rest h =
    let w = n / 10 ^ decimals in
    let l : w < 10 = omega arith in
    rw (text-apart decimals n rest, text-small w l)
    (goes _ (one-reads w (bytes_of "." ++ (last_digits decimals n ++ rest)) l)
    ∙ goes _ (take_text-split (bytes_of ".") (last_digits decimals n ++ rest))
    ∙ last-reads decimals n rest)
