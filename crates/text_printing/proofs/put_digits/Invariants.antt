use Rattle.text_printing.proofs.Tail.{Tail}
use Rattle.text_printing.proofs.put_digits.Given as goal

abbrev pub invariant-loop-rest : goal.invariant-loop-rest
invariant-loop-rest l = Tail l.initial.buffer l.at l.n l.buffer l.place l.rest

abbrev pub decreases-loop-rest : goal.decreases-loop-rest
decreases-loop-rest l = l.rest
