-- `couple_to` meets its contract: the answer of the query's fields.
use Rattle.text_tokens.specs.laws.ReadLaws.{held}
use Rattle.run_couple_line.specs.CoupleLine.{query_couple}
use Rattle.run_couple_line.proofs.couple_to.Goals as goal

pub returns : goal.returns
unfolding query_couple
returns c =
    let d = c.struct_told-1.given in
    let q = c.args.query in
    rw (
      held q.age d.1.0.1,
      held q.other d.1.1.0.1,
      held q.year d.1.1.1.0.1,
      held q.span d.1.1.1.1.0.1,
    )
    at c.couple_within.ensures
