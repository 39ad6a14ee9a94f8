-- `put_digits` meets its contract: each turn writes one more of the last digits, and the first digit follows the loop.
use native.Mathlib.Omega.{arith}
use lib.ListN.{length-set}
use Rattle.text_printing.specs.laws.NumberLengths.{unsigned-length}
use Rattle.text_printing.proofs.Tail.{tail_none, tail_within, tail-further, tail_more, tail-last}
use Rattle.text_printing.proofs.put_digits.Goals as goal

pub overflow_sub-place : goal.overflow_sub-place
overflow_sub-place c = omega (arith, unsigned-length c.args.n)

pub loop-rest-init : goal.loop-rest-init
loop-rest-init c =
    let s = c in
    let l = unsigned-length s.args.n in
    tail_none s.args.buffer.now s.args.at s.args.n _ s.requires.0 (omega arith)

pub bounds-buffer-place : goal.bounds-buffer-place
bounds-buffer-place c = tail_within c.loop-rest.invariant c.requires.1

pub overflow_sub-place-in-loop-rest : goal.overflow_sub-place-in-loop-rest
overflow_sub-place-in-loop-rest c = tail-further c.loop-rest.invariant c.requires.1 c.loop-rest-test.true

pub loop-rest-preserved : goal.loop-rest-preserved
loop-rest-preserved c = tail_more c.loop-rest.invariant c.requires.1 c.loop-rest-test.true

pub bounds-buffer-place-2 : goal.bounds-buffer-place-2
bounds-buffer-place-2 c = tail_within c.loop-rest.invariant c.requires.1

pub shape_of-buffer : goal.shape_of-buffer
shape_of-buffer c = simp length-set c.loop-rest.invariant.size

pub returns : goal.returns
returns c =
    (omega arith, tail-last c.loop-rest.invariant c.requires.1 c.loop-rest-test.false)

pub digit_count-requires : goal.digit_count-requires
digit_count-requires c = c.requires.0
