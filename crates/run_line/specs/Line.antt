-- The answer to a line, by the program's mode and two sets, of which a program of one sheet takes the first.
use Rattle.std.specs.Prelude.{List, ℕ}
use Rattle.set_params.specs.declared.Params.{Params}
use Rattle.quote_along.specs.QuoteBy.{Answer}
use Rattle.quote.specs.Quote.{answer_of}
use Rattle.run_query.specs.declared.Query.{Query}
use Rattle.run_query.specs.Query.{read_query}
use Rattle.run_answer_text.specs.AnswerText.{kind_decimals, answer_text, answered}
use Rattle.quote_compare.specs.Compare.{comparison_of}
use Rattle.run_compare_text.specs.CompareText.{comparison_text}
use Rattle.run_couple_line.specs.CoupleLine.{couple_line, most_couple}
use Rattle.run_target_line.specs.TargetLine.{target_line, most_target}
use Rattle.run_line.specs.declared.Mode.{Mode}
use Rattle.run_line.specs.declared.Mode.TheVariants.{Quotes, Compare, Couples, Targets}
use Rattle.run_line.specs.declared.Reply.{Reply}
use Rattle.run_line.specs.declared.Reply.TheVariants.{Quote, Compared}

-- ---- a query

-- the answer to a query
unfoldable pub query_answer : Params → Query → Answer
query_answer p q = answer_of p q.kind q.age q.year q.term

-- what follows a query: its answer, with the ends where they are asked for, or its answers by the first set and by the second,
-- compared
unfoldable pub reply : Reply → Params → Params → Query → List ℕ
reply (Quote ends) p p' q = answer_text ends (kind_decimals q.kind) (query_answer p q)
reply Compared p p' q = comparison_text (kind_decimals q.kind) (comparison_of (query_answer p q) (query_answer p' q))

abbrev pub query_line : Reply → Params → Params → List ℕ → List ℕ
query_line follows p p' line = answered read_query (reply follows p p') line

-- ---- any line

unfoldable pub line_answer : Mode → Params → Params → List ℕ → List ℕ
line_answer (Quotes ends) p p' line = query_line (Quote ends) p p' line
line_answer Compare p p' line = query_line Compared p p' line
line_answer Couples p p' line = couple_line p p' line
line_answer Targets p p' line = target_line p line

-- no answer to a query's line is longer
abbrev pub longest_reply : Reply → ℕ
longest_reply (Quote ends) = 159
longest_reply Compared = 191

-- no answer is longer
unfoldable pub longest_line : Mode → ℕ
longest_line (Quotes ends) = longest_reply (Quote ends)
longest_line Compare = longest_reply Compared
longest_line Couples = most_couple
longest_line Targets = most_target
