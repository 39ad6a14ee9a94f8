-- `rate_at` meets its contract: the kind takes no rate, or the rate is malformed, or the kind has the rate that was read.
use mathlib.Core.Bool.{not}
use borrow.Author.Rules.{rules}
use mathlib.Core.Path.{◌≡◌, sym, ap, ◌∙◌}
use mir.Val.{of_z, to_z}
use Rattle.std.specs.Int.{w64}
use lib.ListN.{drop}
use Rattle.text_tokens.specs.Text.{bytes_of, taken}
use Rattle.text_tokens.specs.laws.ReadLaws.{lacks, has, read-malformed, read_taken}
use Rattle.run_query.specs.code.Code.{kind_read}
use Rattle.quote_kinds.specs.declared.Kind.{Kind}
use Rattle.quote_kinds.specs.Kinds.{with_rate}
use Rattle.run_query.proofs.QuerySteps.{rate-none, rate-malformed, rate-taken}
use Rattle.run_query.proofs.rate_at.Goals as goal

pub returns-then-not-takes_rate : goal.returns-then-not-takes_rate
returns-then-not-takes_rate c = sym (rate-none _ _ (lacks c.takes_rate.ensures (ap not c.if-not-takes_rate.true)))

pub returns-in_err-rate : goal.returns-in_err-rate
unfolding bytes_of
returns-in_err-rate c =
    ap (kind_read c.args.bytes.now) c.from_residual.ensures
    ∙ sym
    (rate-malformed _ _ (has c.takes_rate.ensures (ap not c.if-not-takes_rate.false))
    (read-malformed _ c.field_at.ensures c.in_err-rate.was))

pub returns : goal.returns
unfolding bytes_of
returns c =
    let e : to_z w64 (of_z w64 c.in_ok-rate.rate) ≡ c.in_ok-rate.rate = search rules in
    ap (λ (k : Kind). taken k (drop c.in_ok-rate.next c.args.bytes.now))
    (c.with_rate.ensures ∙ ap (with_rate c.args.kind) e)
    ∙ sym
    (rate-taken _ _ (has c.takes_rate.ensures (ap not c.if-not-takes_rate.false))
    (read_taken _ c.field_at.ensures c.in_ok-rate.was))
