-- `packed` step by step: eight digits in a byte each, twos of them, fours, and the number.
use mathlib.Core.Path.{◌≡◌, sym, ◌∙◌}
use Prim.Native.Nat.{ℕ, suc, ◌+◌, ◌*◌, ◌/◌, ◌^◌, ◌≤◌, ◌<◌}
use native.Mathlib.Nat.{mul-le-mul_right}
use native.Mathlib.Omega.{arith}
use lib.Bits.{bit_and, and_le_r}
use lib.Dec.{lit≤}
use Rattle.text_words.specs.code.Word.{byte_bits, word_bytes, bytes_in, Below}
use Rattle.text_words.specs.laws.LaneLaws.{lanes-length}
use Rattle.text_numbers.specs.code.Parts.{numeral, pairs}
use Rattle.text_numbers.specs.laws.PairLaws.{pairs-numeral}
use Rattle.text_numbers.specs.laws.JoinLaws.{low_of_two, joined, Packs, packs-join, packs-one}
use Rattle.text_numbers.specs.laws.ShiftLaws.{sum-all}

-- the word after each step
abbrev pub twos : ℕ → ℕ
twos t = joined 8 10 4 t

abbrev pub fours : ℕ → ℕ
fours t = joined 16 100 2 (twos t)

abbrev pub eight : ℕ → ℕ
eight t = joined 32 10000 1 (fours t)

-- each fits a word, since p + 1 times its mask does
masked-le : (v w m p : ℕ) → bit_and v m * p + bit_and w m ≤ m * suc p
masked-le v w m p = omega (arith, mul-le-mul_right p (and_le_r v m), and_le_r w m)

pub joined-le : (k p n v : ℕ) → joined k p n v ≤ low_of_two k n * suc p
joined-le k p n v = masked-le v (v / 2 ^ k) (low_of_two k n) p

module _ (t : ℕ) (fits : t < 2 ^ 64) (small : Below 10 (bytes_in word_bytes t)) where
  ones-pack : Packs 8 10 8 (bytes_in word_bytes t) t
  ones-pack =
      record {
        sum = sym (sum-all byte_bits word_bytes t fits);
        count = lanes-length byte_bits word_bytes t;
        below = small;
      }

  twos-pack : Packs 16 100 4 (pairs 10 (bytes_in word_bytes t)) (twos t)
  twos-pack = packs-join 8 10 4 (lit≤ tt) ones-pack

  fours-pack : Packs 32 10000 2 (pairs 100 (pairs 10 (bytes_in word_bytes t))) (fours t)
  fours-pack = packs-join 16 100 2 (lit≤ tt) twos-pack

  eight-pack : Packs 64 100000000 1 (pairs 10000 (pairs 100 (pairs 10 (bytes_in word_bytes t)))) (eight t)
  eight-pack = packs-join 32 10000 1 (lit≤ tt) fours-pack

  pub eight_is : eight t ≡ numeral 10 0 (bytes_in word_bytes t)
  eight_is =
      packs-one 64 100000000 eight-pack
      ∙ sym (pairs-numeral 10000 0 1 _ fours-pack.count)
      ∙ sym (pairs-numeral 100 0 2 _ twos-pack.count)
      ∙ sym (pairs-numeral 10 0 4 _ ones-pack.count)
