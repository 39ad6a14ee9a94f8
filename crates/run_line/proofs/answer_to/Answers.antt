-- `answer_to` meets its contract: the quote of the query's fields.
use mathlib.Core.Path.{◌∙◌}
use Rattle.text_tokens.specs.laws.ReadLaws.{held}
use Rattle.quote.proofs.Steps.{for-again}
use Rattle.run_line.specs.Line.{query_answer}
use Rattle.run_line.proofs.answer_to.Goals as goal

pub returns : goal.returns
unfolding query_answer
returns c =
    let d = c.struct_told-1.given in
    let q = c.args.query in
    rw (held q.age d.1.0.1, held q.year d.1.1.0.1, held q.term d.1.1.1.0.1)
    at c.answer_within.ensures ∙ for-again _ _ _ _ _
