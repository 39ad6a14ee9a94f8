-- The answer to a couple's line, by the sets of the first life and of the second.
use Rattle.std.specs.Prelude.{true, List, ℕ}
use Rattle.set_params.specs.declared.Params.{Params}
use Rattle.quote_couple_kinds.specs.CoupleKinds.{single_of}
use Rattle.quote_along.specs.QuoteBy.{Answer}
use Rattle.quote_couple.specs.Couple.{couple_answer}
use Rattle.run_couple_query.specs.declared.CoupleQuery.{CoupleQuery}
use Rattle.run_couple_query.specs.CoupleQuery.{read_couple}
use Rattle.run_answer_text.specs.AnswerText.{kind_decimals, answer_text, answered}

-- the answer to a query
unfoldable pub query_couple : Params → Params → CoupleQuery → Answer
query_couple p p' q = couple_answer p p' q.kind q.age q.other q.year q.span

-- what follows a query: its answer with the ends and their unit; "Steps are those of the single life", and so are the decimals
unfoldable pub couple_reply : Params → Params → CoupleQuery → List ℕ
couple_reply p p' q = answer_text true (kind_decimals (single_of q.kind)) (query_couple p p' q)

-- the answer to any line
abbrev pub couple_line : Params → Params → List ℕ → List ℕ
couple_line p p' line = answered read_couple (couple_reply p p') line

-- no answer is longer
abbrev pub most_couple : ℕ
most_couple = 161
