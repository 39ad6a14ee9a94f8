-- Figures' texts, by computation.
use Rattle.std.specs.Prelude.{◌≡◌, refl}
use Rattle.text_tokens.specs.Text.{bytes_of}
use Rattle.text_tokens.specs.Number.{decimal, unsigned_text}
use Rattle.number_exact.specs.declared.Figure.TheVariants.{Printed, Open}
use Rattle.run_figure_text.specs.FigureText.{last_digits, steps_text, figure_text}

-- probabilities: five decimals
probability : figure_text 5 (Printed 30780) ≡ bytes_of "0.30780"
unfolding figure_text steps_text last_digits unsigned_text decimal bytes_of
probability = refl

certain : figure_text 5 (Printed 100000) ≡ bytes_of "1.00000"
unfolding figure_text steps_text last_digits unsigned_text decimal bytes_of
certain = refl

impossible : figure_text 5 (Printed 0) ≡ bytes_of "0.00000"
unfolding figure_text steps_text last_digits unsigned_text decimal bytes_of
impossible = refl

-- expectancies: two decimals
short-life : figure_text 2 (Printed 275) ≡ bytes_of "2.75"
unfolding figure_text steps_text last_digits unsigned_text decimal bytes_of
short-life = refl

long-life : figure_text 2 (Printed 2143) ≡ bytes_of "21.43"
unfolding figure_text steps_text last_digits unsigned_text decimal bytes_of
long-life = refl

-- prices: one decimal
price : figure_text 1 (Printed 158) ≡ bytes_of "15.8"
unfolding figure_text steps_text last_digits unsigned_text decimal bytes_of
price = refl

-- ends that round to different steps
not-printed : figure_text 5 Open ≡ bytes_of "open"
unfolding figure_text
not-printed = refl
