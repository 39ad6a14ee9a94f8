-- `field_at` meets its contract: the name is missing, or the number behind it is read.
use mathlib.Core.Bool.{not}
use mathlib.Core.Path.{ap}
use mathlib.Core.Path.{sym}
use native.Mathlib.Omega.{arith}
use Rattle.text_tokens.specs.laws.TextLaws.{text-room}
use Rattle.text_tokens.specs.laws.ReadLaws.{lacks, has}
use Rattle.run_query.proofs.WordSteps.{name-missing, number-follows}
use Rattle.run_query.proofs.field_at.Goals as goal

pub returns-then-not-text_at : goal.returns-then-not-text_at
returns-then-not-text_at c = sym (name-missing _ _ _ (lacks c.before.text_at.ensures (ap not c.if-not-text_at.true)))

pub overflow_add-at : goal.overflow_add-at
overflow_add-at c = omega (arith, text-room _ _ _ (has c.before.text_at.ensures (ap not c.if-not-text_at.false)))

pub returns : goal.returns
returns c =
    let e = c.before in
    number-follows _ _ _ (has e.before.text_at.ensures (ap not e.if-not-text_at.false)) c.number_at.ensures
