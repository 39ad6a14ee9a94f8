-- `judge` meets its contract: a set out of its limits is refused, then a malformed column, any other is judged, and every answer is
-- honest.
use mathlib.Core.Path.{◌≡◌, sym, ◌∙◌}
use mir.Facts.{to_z-of_z}
use Rattle.quote_verdicts.proofs.laws.Theorem.{refused-honest}
use Rattle.quote_verdicts.proofs.Steps.{out-of-limits, malformed-column, answered}
use Rattle.quote_verdicts.proofs.judge.Goals as goal

pub returns-then-not-in_limits : goal.returns-then-not-in_limits
returns-then-not-in_limits c =
    record { answered = out-of-limits c.args.p c.args.year _ (sym c.in_limits.ensures ∙ c.if-not-in_limits.true); honest = refused-honest }

pub returns-in_default : goal.returns-in_default
returns-in_default c =
    record {
      answered = malformed-column c.args.p c.args.year (rw (sym c.in_limits.ensures ∙ c.if-not-in_limits.false) tt) c.in_default.is;
      honest = refused-honest;
    }

pub judge_within-requires : goal.judge_within-requires
judge_within-requires c = rw (sym c.in_limits.ensures ∙ c.if-not-in_limits.false) tt

pub returns : goal.returns
returns c =
    let a = answered c.args.p c.args.year c.in-Some.is (rw (to_z-of_z c.ranges.year) at c.judge_within.ensures) in
    record { answered = a.0; honest = a.1 }
