-- `ends_at` meets its contract: no line feed stands there, or one does and nothing follows, or something does.
use Rattle.std.proofs.Common.{sym, ◌∙◌, arith}
use Rattle.text_tokens.specs.Text.{bytes_of}
use Rattle.text_tokens.specs.laws.TextLaws.{text-room}
use Rattle.run_query.proofs.QuerySteps.{no-feed, feed-last}
use Rattle.run_query.proofs.ends_at.Goals as goal

pub overflow_add-result : goal.overflow_add-result
overflow_add-result c = omega (arith, text-room _ _ _ (sym c.text_at.ensures ∙ c.if-text_at.true))

pub returns-then-text_at : goal.returns-then-text_at
unfolding bytes_of
returns-then-text_at c = sym (feed-last _ _ (sym c.text_at.ensures ∙ c.if-text_at.true))

pub returns-else-text_at : goal.returns-else-text_at
unfolding bytes_of
returns-else-text_at c = c.if-text_at.false ∙ sym (no-feed _ _ (sym c.text_at.ensures ∙ c.if-text_at.false))
