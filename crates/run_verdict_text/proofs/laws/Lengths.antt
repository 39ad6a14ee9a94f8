-- How long a line is.
use Rattle.std.specs.Prelude.{◌≤◌, ℤ, length, Ok, Err}
use Rattle.std.proofs.Common.{arith, length-append}
use Rattle.text_tokens.specs.Text.{bytes_of}
use Rattle.text_tokens.specs.laws.DecimalLaws.{number-length}
use Rattle.run_answer_text.proofs.laws.Lengths.{refused-length}
use Rattle.quote_verdicts.specs.declared.Verdict.{Verdict}
use Rattle.quote_verdicts.specs.declared.Verdict.TheVariants.{Right, Wrong, Open}
use Rattle.quote_verdicts.specs.Verdict.{Judged}
use Rattle.quote_verdicts.specs.Verdict.{verdict_word}
use Rattle.run_verdict_text.specs.VerdictText.{word_text, judged_text, verdict_line, most_verdict}

word-length : (v : Verdict) → length (word_text v) ≤ 15
unfolding word_text verdict_word bytes_of
word-length Right = omega arith
word-length Wrong = omega arith
word-length Open = omega arith

judged-length : (j : Judged) → length (judged_text j) ≤ 15
unfolding judged_text
judged-length (Ok v) = word-length v
judged-length (Err r) = omega (arith, refused-length r)

pub line-most : (year : ℤ) (j : Judged) → length (verdict_line year j) ≤ most_verdict
unfolding verdict_line bytes_of
line-most year j = simp length-append (omega (arith, number-length year, judged-length j))
