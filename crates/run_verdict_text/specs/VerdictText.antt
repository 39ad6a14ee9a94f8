-- The line that the program `verdict` prints of a year (paper 02, E3): `year=2020 verdict=right`, `wrong` or `open`, or
-- `year=2020 no=` and the number.
use Rattle.std.specs.Prelude.{List, ◌++◌, ℕ, ℤ, Ok, Err}
use Rattle.text_tokens.specs.Text.{bytes_of}
use Rattle.text_tokens.specs.Number.{number_text}
use Rattle.run_answer_text.specs.AnswerText.{refused_text}
use Rattle.quote_verdicts.specs.declared.Verdict.{Verdict}
use Rattle.quote_verdicts.specs.Verdict.{Judged}
use Rattle.quote_verdicts.specs.Verdict.{verdict_word}

-- a verdict's word
unfoldable pub word_text : Verdict → List ℕ
word_text v = bytes_of " verdict=" ++ (verdict_word v ++ bytes_of "\n")

-- what follows the year
unfoldable pub judged_text : Judged → List ℕ
judged_text (Ok v) = word_text v
judged_text (Err r) = refused_text r

unfoldable pub verdict_line : ℤ → Judged → List ℕ
verdict_line year j = (bytes_of "year=" ++ number_text year) ++ judged_text j

-- no line is longer than `year=`, a minus and 15 digits, ` verdict=wrong` and the line feed
abbrev pub most_verdict : ℕ
most_verdict = 36
