-- Refusals of one digit and of two, and ends in either unit, by computation.
use Rattle.std.specs.Prelude.{◌≡◌, refl, true}
use Rattle.text_tokens.specs.Text.{bytes_of}
use Rattle.text_tokens.specs.Number.{decimal, unsigned_text}
use Rattle.number_exponential.specs.declared.GridUnit.TheVariants.{Coarse, Fine}
use Rattle.number_exact.specs.declared.Figure.TheVariants.{Printed}
use Rattle.set_refusal.specs.declared.Refusal.TheVariants.{NoSuchSpan, NoSuchDate}
use Rattle.set_refusal.specs.Refusals.{refusal_number}
use Rattle.run_figure_text.specs.FigureText.{last_digits, steps_text, figure_text, shown_text}
use Rattle.run_answer_text.specs.AnswerText.{refusal_line, refused_text, end_text, unit_text, ends_text, quote_text}

no-such-span : refused_text NoSuchSpan ≡ bytes_of " no=5\n"
unfolding refused_text refusal_line refusal_number unsigned_text decimal bytes_of
no-such-span = refl

no-such-date : refused_text NoSuchDate ≡ bytes_of " no=10\n"
unfolding refused_text refusal_line refusal_number unsigned_text decimal bytes_of
no-such-date = refl

coarse : quote_text true 2 (record { unit = Coarse; lower = 2748869095; upper = 2748870143; figure = Printed 275 })
    ≡ bytes_of " lo=2748869095 hi=2748870143 unit=9 fig=2.75\n"
unfolding quote_text ends_text end_text unit_text shown_text figure_text steps_text last_digits unsigned_text decimal bytes_of
coarse = refl

fine : quote_text true 2 (record { unit = Fine; lower = 1400050016506236; upper = 1400050016724777; figure = Printed 14001 })
    ≡ bytes_of " lo=1400050016506236 hi=1400050016724777 unit=13 fig=140.01\n"
unfolding quote_text ends_text end_text unit_text shown_text figure_text steps_text last_digits unsigned_text decimal bytes_of
fine = refl
