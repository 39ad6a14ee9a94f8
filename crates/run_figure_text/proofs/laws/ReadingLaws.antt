-- The text is faithful: a figure's text reads back as its steps, so that two figures are printed alike exactly when they are one.
use Rattle.std.specs.Prelude.{◌≡◌, refl, ◌↔◌, List, [], ◌++◌, ℕ, zero, suc, ◌+◌, ◌/◌, ◌%◌, ◌^◌, ◌<◌}
use Rattle.std.proofs.Common.{ap, sym, ◌∙◌, append_assoc, append-nil, div-add-mod', div-le_self, mod-lt, div-one, zero-lt-suc, arith}
use Rattle.number_whole.proofs.laws.Clash.{clash}
use Rattle.text_tokens.specs.Text.{bytes_of, malformed, taken}
use Rattle.text_tokens.specs.laws.TextLaws.{take_text-split}
use Rattle.text_tokens.specs.Number.{zero_digit, most_digits, is_digit, digits, after_digits, no_leading_zero, well_formed, read_unsigned}
use Rattle.text_tokens.specs.Number.{value_from, unsigned_text}
use Rattle.text_tokens.specs.laws.DigitLaws.{digit-between}
use Rattle.text_tokens.specs.Number.{read_digits}
use Rattle.text_tokens.specs.laws.Steps.{goes}
use Rattle.text_tokens.specs.laws.RunLaws.{value_on}
use Rattle.text_tokens.specs.laws.NumberTrip.{AllDigits, all_append, malformed-not-taken, unsigned_reads}
use Rattle.text_tokens.specs.laws.FixedLaws.{fixed_reads}
use Rattle.number_exact.specs.declared.Figure.{Figure}
use Rattle.number_exact.specs.declared.Figure.TheVariants.{Printed, Open}
use Rattle.run_figure_text.specs.FigureText.{last_digits, steps_text, figure_text, read_steps}
use Rattle.run_figure_text.specs.code.Sizes.{Printable}
use Rattle.run_figure_text.proofs.laws.FigureTextLaws.{last-length, tenth-without}

-- ---- the decimals

last-digits : (d n : ℕ) → AllDigits (last_digits d n)
unfolding last_digits
last-digits zero n = tt
last-digits (suc d) n =
    all_append (last_digits d (n / 10)) _ (last-digits d (n / 10))
    (digit-between (zero_digit + n % 10) (omega arith) (omega (arith, mod-lt n {m = 10} (zero-lt-suc 9))), tt)

-- after the whole part they stand for the number
last-value : (d n : ℕ) → value_from (n / 10 ^ d) (last_digits d n) ≡ n
unfolding last_digits value_from
last-value zero n = div-one n
last-value (suc d) n =
    rw (← tenth-without d n, value_on, last-value d (n / 10)) (omega (arith, div-add-mod' n 10))

pub last-reads : (d n : ℕ) (rest : List ℕ) → read_digits (n / 10 ^ d) d (last_digits d n ++ rest) ≡ taken n rest
last-reads d n rest =
    ap (λ (k : ℕ). read_digits (n / 10 ^ d) k (last_digits d n ++ rest)) (sym (last-length d n))
    ∙ fixed_reads (n / 10 ^ d) (last_digits d n) rest (last-digits d n)
    ∙ ap (λ (v : ℕ). taken v rest) (last-value d n)

-- ---- the whole text

pub text-apart : (d n : ℕ) (rest : List ℕ)
    → steps_text d n ++ rest ≡ unsigned_text (n / 10 ^ d) ++ (bytes_of "." ++ (last_digits d n ++ rest))
unfolding steps_text
text-apart d n rest = simp append_assoc

-- any steps of at most 15 digits read back from their text, whatever the number of decimals and whatever follows them
pub steps-read : (d n : ℕ) (rest : List ℕ) → n < 10 ^ most_digits → read_steps d (steps_text d n ++ rest) ≡ taken n rest
unfolding read_steps bytes_of is_digit
steps-read d n rest h =
    rw (text-apart d n rest)
    (goes _ (unsigned_reads (n / 10 ^ d) (bytes_of "." ++ (last_digits d n ++ rest)) (omega (arith, div-le_self n (10 ^ d))) tt)
    ∙ goes _ (take_text-split (bytes_of ".") (last_digits d n ++ rest))
    ∙ last-reads d n rest)

text-read : (d n : ℕ) → n < 10 ^ most_digits → read_steps d (steps_text d n) ≡ taken n []
text-read d n h = ap (read_steps d) (sym (append-nil (steps_text d n))) ∙ steps-read d n [] h

-- `open` is no number's text
open-unread : (d : ℕ) → read_steps d (bytes_of "open") ≡ malformed
unfolding read_steps bytes_of is_digit digits after_digits no_leading_zero well_formed read_unsigned
open-unread d = refl

-- ---- printed alike

-- two numbers of steps are printed alike, with any number of decimals, exactly when they are equal
pub steps_alike : (d n m : ℕ) → n < 10 ^ most_digits → m < 10 ^ most_digits → (steps_text d n ≡ steps_text d m) ↔ (n ≡ m)
steps_alike d n m h k = (
  λ e. let q : taken n [] ≡ taken m [] = sym (text-read d n h) ∙ ap (read_steps d) e ∙ text-read d m k in cc,
  λ e. ap (steps_text d) e,
)

open-apart : {X : Type 0} (d n : ℕ) → n < 10 ^ most_digits → steps_text d n ≡ bytes_of "open" → X
open-apart d n h e = malformed-not-taken (sym (open-unread d) ∙ ap (read_steps d) (sym e) ∙ text-read d n h)

-- and so are two figures, of which `open` is one
pub figures-alike : (d : ℕ) (f f' : Figure) → Printable f → Printable f' → (figure_text d f ≡ figure_text d f') ↔ (f ≡ f')
unfolding figure_text Printable
figures-alike d (Printed n) (Printed m) h k =
    (λ e. ap Printed ((steps_alike d n m h k).0 e), λ e. ap (figure_text d) e)
figures-alike d (Printed n) Open h k = (λ e. open-apart d n h e, λ e. clash cc)
figures-alike d Open (Printed m) h k = (λ e. open-apart d m k (sym e), λ e. clash cc)
figures-alike d Open Open h k = (λ e. refl, λ e. refl)
