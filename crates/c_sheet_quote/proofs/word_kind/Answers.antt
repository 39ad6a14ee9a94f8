-- `word_kind` meets its contract: the kind at the front of the word, where nothing follows it.
use mathlib.Core.Path.{sym, ap, ◌∙◌}
use native.Mathlib.Omega.{arith}
use Rattle.run_query.proofs.QuerySteps.{no_word, word-goes-on, word-ends, kind-malformed, kind-taken}
use Rattle.c_sheet_quote.specs.SheetQuote.{word_kind}
use Rattle.run_query.specs.code.Code.{kind_read}
use Rattle.c_sheet_quote.proofs.word_kind.Goals as goal

pub returns-in_err-kind : goal.returns-in_err-kind
unfolding word_kind
returns-in_err-kind c =
    ap (kind_read c.args.word.now) c.from_residual.ensures ∙ sym (no_word _ _ _ (kind-malformed _ c.kind_at.ensures c.in_err-kind.was))

pub returns-then-end-word : goal.returns-then-end-word
unfolding word_kind
returns-then-end-word c = sym (word-goes-on _ _ _ c.in_ok-kind.end (kind-taken _ c.kind_at.ensures c.in_ok-kind.was) (omega (arith, c.if-end-word.true)))

pub returns : goal.returns
unfolding word_kind
returns c = sym (word-ends _ _ _ c.in_ok-kind.end (kind-taken _ c.kind_at.ensures c.in_ok-kind.was) (omega (arith, c.if-end-word.false)))
