-- `read_then_write` meets its contract, from what the reader and the writer ensure.
use mathlib.Core.Path.{sym, ◌∙◌}
use Rattle.sheet_round_trip.proofs.laws.TripLaws.{not-copied, copy}
use borrow.Author.Rules.{rules}
use Rattle.sheet_round_trip.proofs.read_then_write.Goals as goal

pub returns-then-refusal_number-ne0 : goal.returns-then-refusal_number-ne0
returns-then-refusal_number-ne0 c =
    let read = c.before.before.read-got in
    not-copied _ _ read.ensures (λ e. c.if-refusal_number-ne0.true (c.before.refusal_number.ensures ∙ e))

pub returns : goal.returns
returns c =
    let write = c.before.before in
    let left = write.before.before.before in
    let number = left.before in
    copy _ _ number.before.read-got.ensures (sym number.refusal_number.ensures ∙ left.if-refusal_number-ne0.false) write.write.ensures
