-- `packed` meets its contract: joining neighbours three times keeps the number, and each step fits a word.
use native.Mathlib.Omega.{arith}
use Rattle.text_words.specs.code.Word.{lane_sum}
use Rattle.text_numbers.proofs.Packing.{twos, fours, joined-le, eight_is}
use Rattle.text_numbers.proofs.packed.Goals as goal

pub overflow_mul-twos : goal.overflow_mul-twos
unfolding lane_sum
overflow_mul-twos c = record { fits = omega (arith, joined-le 8 10 4 c.args.t) }

pub overflow_add-twos : goal.overflow_add-twos
unfolding lane_sum
overflow_add-twos c = record { fits = omega (arith, joined-le 8 10 4 c.args.t) }

pub overflow_mul-fours : goal.overflow_mul-fours
unfolding lane_sum
overflow_mul-fours c = record { fits = omega (arith, joined-le 16 100 2 (twos c.args.t)) }

pub overflow_add-fours : goal.overflow_add-fours
unfolding lane_sum
overflow_add-fours c = record { fits = omega (arith, joined-le 16 100 2 (twos c.args.t)) }

pub overflow_mul-result : goal.overflow_mul-result
unfolding lane_sum
overflow_mul-result c = record { fits = omega (arith, joined-le 32 10000 1 (fours c.args.t)) }

pub overflow_add-result : goal.overflow_add-result
unfolding lane_sum
overflow_add-result c = record { fits = omega (arith, joined-le 32 10000 1 (fours c.args.t)) }

pub returns : goal.returns
unfolding lane_sum
returns c = eight_is c.args.t (omega arith) c.requires
