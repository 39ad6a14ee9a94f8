use Rattle.text_tokens.proofs.DigitSteps.{Run}
use Rattle.text_tokens.proofs.digits_walk.Given as goal

abbrev pub invariant-loop-count : goal.invariant-loop-count
invariant-loop-count l = Run l.bytes l.at l.value l.count
