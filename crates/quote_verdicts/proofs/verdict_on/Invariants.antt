-- The verdict is that on the ages below x.
use Rattle.std.proofs.Common.{◌≡◌}
use Rattle.quote_verdicts.specs.Verdict.{entry_at, verdict_to}
use Rattle.quote_verdicts.specs.code.Code.{figure_kept}
use Rattle.quote_verdicts.proofs.verdict_on.Given as goal

abbrev pub invariant-loop-x : goal.invariant-loop-x
invariant-loop-x l = l.verdict ≡ verdict_to (figure_kept l.p l.year l.factors) (entry_at l.column) l.x
