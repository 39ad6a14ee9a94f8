-- The rest is the number without the digits that are taken.
use Rattle.std.proofs.Common.{◌≡◌, ◌/◌, ◌^◌}
use Rattle.run_figure_text.proofs.without_last.Given as goal

abbrev pub invariant-loop-taken : goal.invariant-loop-taken
invariant-loop-taken l = l.rest ≡ l.n / 10 ^ l._taken
