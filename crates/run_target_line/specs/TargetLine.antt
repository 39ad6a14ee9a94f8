-- A target's line (paper 02, E9), "a given age and target in units of 10^-9", numbers formed as in a sheet:
-- `age=65 target=21000000000`. What a line asks, and the answer: its own text and behind it what was found.
use Rattle.std.specs.Prelude.{List, ◌++◌, ℕ, ℤ, Ok, Err}
use Rattle.text_tokens.specs.Text.{bytes_of, Parse, and_then}
use Rattle.text_tokens.specs.Number.{number_text}
use Rattle.set_params.specs.declared.Params.{Params}
use Rattle.quote_target.specs.declared.TargetYear.{TargetYear}
use Rattle.quote_target.specs.declared.TargetYear.TheVariants.{Reached, Open, Never}
use Rattle.quote_target.specs.Target.{TargetAnswer, target_answer}
use Rattle.run_query.specs.Query.{read_field, ended}
use Rattle.run_answer_text.specs.AnswerText.{refused_text, answered}
use Rattle.run_target_line.specs.declared.TargetQuery.{TargetQuery}

unfoldable pub read_target : List ℕ → Parse TargetQuery
read_target line =
    and_then (read_field (bytes_of "age=") line) (λ age after₀.
    and_then (read_field (bytes_of " target=") after₀) (λ target after₁.
    ended (record { age = age; target = target }) after₁))

-- a named year
unfoldable pub year_text : ℤ → List ℕ
year_text year = (bytes_of " year=" ++ number_text year) ++ bytes_of "\n"

-- each case's text: "that year is the answer; otherwise the answer is open", "the answer is none"
unfoldable pub told_text : TargetYear → List ℕ
told_text (Reached year) = year_text year
told_text Open = bytes_of " year=open\n"
told_text Never = bytes_of " year=none\n"

-- that, or a refusal
unfoldable pub found_text : TargetAnswer → List ℕ
found_text (Ok told) = told_text told
found_text (Err r) = refused_text r

unfoldable pub target_reply : Params → TargetQuery → List ℕ
target_reply p q = found_text (target_answer p q.age q.target)

-- the answer to any line
abbrev pub target_line : Params → List ℕ → List ℕ
target_line p line = answered read_target (target_reply p) line

-- no answer is longer
abbrev pub most_target : ℕ
most_target = 67
