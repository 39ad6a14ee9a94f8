-- `digit_count` meets its contract: the zero bits below the first mark, eight for each digit.
use mathlib.Core.Path.{ap, ◌∙◌}
use Prim.Native.Nat.{ℕ, ◌/◌}
use native.Mathlib.Omega.{arith}
use lib.Count.{count_trailing_zeros, trailing_le}
use Rattle.text_words.specs.code.Word.{byte_bits, word_bytes, bytes_in}
use Rattle.text_words.specs.laws.LaneLaws.{lanes-length}
use Rattle.text_numbers.specs.laws.MarkLaws.{digits-counted}
use Rattle.text_numbers.proofs.digit_count.Goals as goal

pub overflow_cast-result : goal.overflow_cast-result
overflow_cast-result c = record { fits = omega (arith, trailing_le 64 c.marks.result) }

pub returns : goal.returns
returns c =
    let word = c.before.args.word in
    ap (λ (m : ℕ). count_trailing_zeros 64 m / byte_bits) c.marks.ensures
    ∙ (rw (lanes-length byte_bits word_bytes word) at (digits-counted (bytes_in word_bytes word)))
