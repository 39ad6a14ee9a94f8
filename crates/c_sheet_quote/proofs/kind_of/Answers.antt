-- `kind_of` meets its contract: malformed where the kind takes a rate or a date.
use mathlib.Core.Path.{sym, ap, ◌∙◌}
use Rattle.quote_kinds.specs.declared.Rule.{Rule}
use Rattle.run_query.proofs.QuerySteps as steps
use Rattle.c_sheet_quote.specs.laws.AnswerLaws.{kind-malformed, rate-wanting, date-wanting, span-given}
use Rattle.run_query.specs.code.Code.{kind_read}
use Rattle.c_sheet_quote.proofs.kind_of.Goals as goal

pub returns-in_err-kind : goal.returns-in_err-kind
returns-in_err-kind c =
    ap (kind_read c.args.word.now) c.from_residual.ensures ∙ sym (kind-malformed _ (steps.kind-malformed _ c.word_kind.ensures c.in_err-kind.was))

pub returns-then-takes_rate : goal.returns-then-takes_rate
returns-then-takes_rate c =
    let t = c in
    let k = t in
    let word = steps.kind-taken _ k.word_kind.ensures k.in_ok-kind.was in
    sym (rate-wanting _ word (sym t.takes_rate.ensures ∙ c.if-takes_rate.true))

pub returns-then-rule : goal.returns-then-rule
returns-then-rule c =
    let r = c in
    let t = r in
    let k = t in
    let word = steps.kind-taken _ k.word_kind.ensures k.in_ok-kind.was in
    let dated = ap (λ (q : Rule). q.dated) (sym r.rule_of-rule.ensures) in
    sym (date-wanting _ word (sym t.takes_rate.ensures ∙ r.if-takes_rate.false) (dated ∙ c.if-rule.true))

pub returns : goal.returns
returns c =
    let r = c in
    let t = r in
    let k = t in
    let word = steps.kind-taken _ k.word_kind.ensures k.in_ok-kind.was in
    let dated = ap (λ (q : Rule). q.dated) (sym r.rule_of-rule.ensures) in
    sym (span-given _ word (sym t.takes_rate.ensures ∙ r.if-takes_rate.false) (dated ∙ c.if-rule.false))
