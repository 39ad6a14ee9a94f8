-- `couple_kind_of` meets its contract: the kind at the front of the word, where nothing follows it.
use mathlib.Core.Path.{sym, ap, ◌∙◌}
use native.Mathlib.Omega.{arith}
use Rattle.run_query.proofs.QuerySteps.{no_word, word-goes-on, word-ends}
use Rattle.run_couple_query.specs.code.Code.{couple_kind_read}
use Rattle.c_couple_quote.specs.SheetsCouple.{couple_kind_of}
use Rattle.c_couple_quote.proofs.couple_kind_of.Goals as goal

pub returns-in_err-kind : goal.returns-in_err-kind
unfolding couple_kind_of
returns-in_err-kind c =
    ap (couple_kind_read c.args.word.now) c.from_residual.ensures ∙ sym (no_word _ _ _ (sym c.couple_kind_at.ensures ∙ ap (couple_kind_read _) c.in_err-kind.was))

pub returns-then-end-word : goal.returns-then-end-word
unfolding couple_kind_of
returns-then-end-word c = sym (word-goes-on _ _ _ c.in_ok-kind.end (sym c.couple_kind_at.ensures ∙ ap (couple_kind_read _) c.in_ok-kind.was) (omega (arith, c.if-end-word.true)))

pub returns : goal.returns
unfolding couple_kind_of
returns c = sym (word-ends _ _ _ c.in_ok-kind.end (sym c.couple_kind_at.ensures ∙ ap (couple_kind_read _) c.in_ok-kind.was) (omega (arith, c.if-end-word.false)))
