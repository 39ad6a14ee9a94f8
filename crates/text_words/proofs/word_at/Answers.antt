-- `word_at` meets its contract: the word of the eight bytes at the place.
use native.Mathlib.Omega.{arith}
use Rattle.text_words.specs.code.Word.{lane_sum}
use Rattle.text_words.specs.laws.WordLaws.{eight-in}
use Rattle.text_words.proofs.word_at.Goals as goal

pub returns : goal.returns
unfolding lane_sum
returns c = eight-in c.args.bytes.now c.args.at c.requires (λ i. omega (arith, c.type_inv.bytes i)) _ (omega arith)
