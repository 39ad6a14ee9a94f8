-- `digits_at` meets its contract: the digits stop in the first word, or fill it and go on in the second.
use mathlib.Core.Path.{refl}
use mathlib.Core.Path.{◌≡◌}
use Prim.Native.Nat.{ℕ, ◌≤◌}
use lib.ListN.{length}
use Rattle.text_tokens.specs.Number.{digits}
use native.Mathlib.Omega.{arith}
use Rattle.text_words.specs.code.Word.{word_bytes, bytes_in}
use Rattle.text_numbers.proofs.WordSteps.{count_most, words-few, words-all, last-full}
use Rattle.text_numbers.proofs.digits_at.Goals as goal

-- the second word has at most eight digits
most : (w : ℕ) {n : ℕ} → n ≡ length (digits (bytes_in word_bytes w)) → n ≤ word_bytes
most w e = omega (arith, e, count_most w)

pub returns-then-count-lt-BYTES : goal.returns-then-count-lt-BYTES
returns-then-count-lt-BYTES c =
    words-few _ _ _ c.word_at-first.ensures (omega arith) c.digit_count-count.ensures (omega arith)
    c.value_of-value.ensures.value

pub value_of-before-requires : goal.value_of-before-requires
value_of-before-requires c =
    omega (arith, most c.word_at.result c.digit_count-more.ensures, c.digit_count-count.ensures)

pub overflow_add-at-2 : goal.overflow_add-at-2
overflow_add-at-2 c = omega (arith, most c.word_at.result c.digit_count-more.ensures)

pub word_at-requires-2 : goal.word_at-requires-2
word_at-requires-2 c = omega (arith, most c.word_at.result c.digit_count-more.ensures)

pub value_of-last-requires : goal.value_of-last-requires
value_of-last-requires c =
    last-full _ _ _ c.word_at-first.ensures (omega arith) _ _ (omega (arith, c.digit_count-count.ensures))
    c.word_at.ensures c.digit_count-more.ensures _ c.word_at-2.ensures

pub overflow_add-result : goal.overflow_add-result
overflow_add-result c = omega (arith, most c.word_at.result c.digit_count-more.ensures)

pub returns : goal.returns
returns c =
    words-all _ _ _ c.word_at-first.ensures (omega arith) _ _ (omega (arith, c.digit_count-count.ensures))
    c.word_at.ensures c.digit_count-more.ensures _ c.word_at-2.ensures
    c.value_of-before.ensures.value c.value_of-last.ensures.value refl
