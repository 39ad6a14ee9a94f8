-- `marks` meets its contract: it works on each byte by itself, and no byte's sum runs over.
use native.Mathlib.Omega.{arith}
use lib.Bits.{and_le_r}
use Rattle.text_words.specs.code.Word.{lane_sum}
use Rattle.text_numbers.proofs.Marking.{eight, marks-are}
use Rattle.text_numbers.proofs.marks.Goals as goal

pub overflow_add-past_nine : goal.overflow_add-past_nine
unfolding lane_sum
overflow_add-past_nine c = record { fits = omega (arith, and_le_r c.args.word (eight 127)) }

pub overflow_add-from_zero : goal.overflow_add-from_zero
unfolding lane_sum
overflow_add-from_zero c = record { fits = omega (arith, and_le_r c.args.word (eight 127)) }

pub returns : goal.returns
unfolding lane_sum
returns c = marks-are c.args.word (omega arith)
