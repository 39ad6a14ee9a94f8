-- `rated_kind_of` meets its contract: malformed where the kind takes no rate, else the kind with the rate.
use mathlib.Core.Bool.{not}
use mathlib.Core.Path.{sym, ap, ◌∙◌}
use lib.ListN.{drop}
use mir.Facts.{to_z-of_z}
use Rattle.text_tokens.specs.Text.{taken}
use Rattle.text_tokens.specs.laws.ReadLaws.{lacks, has}
use Rattle.quote_kinds.specs.declared.Kind.{Kind}
use Rattle.quote_kinds.specs.Kinds.{with_rate}
use Rattle.run_query.proofs.QuerySteps as steps
use Rattle.c_sheet_quote.specs.laws.AnswerLaws.{rated-kind-malformed, rate-unasked, rate-given}
use Rattle.run_query.specs.code.Code.{kind_read}
use Rattle.c_sheet_quote.proofs.rated_kind_of.Goals as goal

pub returns-in_err-kind : goal.returns-in_err-kind
returns-in_err-kind c =
    ap (kind_read c.args.word.now) c.from_residual.ensures ∙ sym (rated-kind-malformed _ _ (steps.kind-malformed _ c.word_kind.ensures c.in_err-kind.was))

pub returns-then-not-takes_rate : goal.returns-then-not-takes_rate
returns-then-not-takes_rate c =
    let t = c in
    let k = t in
    let word = steps.kind-taken _ k.word_kind.ensures k.in_ok-kind.was in
    sym (rate-unasked _ word _ (lacks t.takes_rate.ensures (ap not c.if-not-takes_rate.true)))

pub returns : goal.returns
returns c =
    let t = c in
    let k = t in
    let w = k in
    let s = w in
    ap (λ (r : Kind). taken r (drop k.in_ok-kind.end s.args.word.now))
    (c.with_rate.ensures ∙ ap (with_rate k.in_ok-kind.kind) (to_z-of_z s.ranges.rate))
    ∙ sym (rate-given _ (steps.kind-taken _ w.word_kind.ensures k.in_ok-kind.was) _ (has t.takes_rate.ensures (ap not c.if-not-takes_rate.false)))
