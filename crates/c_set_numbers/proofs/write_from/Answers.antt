-- `write_from` meets its contract: malformed where the numbers are no set's, else what the writer answers.
use mathlib.Core.Bool.{not}
use mathlib.Core.Path.{ap}
use mathlib.Core.Path.{sym, ◌∙◌}
use borrow.Author.Tests.{not-true, not-false}
use Rattle.c_set_numbers.specs.laws.AnswerLaws.{as_many, write-malformed, write-told}
use Rattle.c_set_numbers.proofs.write_from.Goals as goal

pub returns-then-not-are_set : goal.returns-then-not-are_set
returns-then-not-are_set c =
    let t = c in
    let a = t.are_set in
    let m = write-malformed c.args.values.now c.args.buffer.now c.args.len.now
    (sym a.ensures ∙ not-true a.result (ap not t.if-not-are_set.true)) c.refusal_number.ensures in
    record { value = m.0; buffer_after = m.1.0; len_after = m.1.1 }

pub set_of-requires : goal.set_of-requires
set_of-requires c = as_many _ (sym c.are_set.ensures ∙ not-false c.are_set.result (ap not c.if-not-are_set.false))

pub returns : goal.returns
returns c =
    let m = write-told c.args.values.now c.args.buffer.now c.args.len.now
    (sym c.are_set.ensures ∙ not-false c.are_set.result (ap not c.if-not-are_set.false)) c.set_of.ensures c.write.ensures
    (c.tell.ensures.value, c.tell.ensures.len_after) in
    record { value = m.0; buffer_after = m.1.0; len_after = m.1.1 }
