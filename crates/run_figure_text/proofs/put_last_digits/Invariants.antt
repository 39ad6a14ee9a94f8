-- The digits from the place on are written, and the others are the rest's.
use Rattle.run_figure_text.proofs.Tail.{Tail}
use Rattle.run_figure_text.proofs.put_last_digits.Given as goal

abbrev pub invariant-loop-place : goal.invariant-loop-place
invariant-loop-place l = Tail l.initial.buffer l.at l.decimals l.n l.buffer l.rest l.place
