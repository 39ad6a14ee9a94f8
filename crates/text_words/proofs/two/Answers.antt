-- `two` meets its contract.
use native.Mathlib.Omega.{arith}
use mathlib.Core.Path.{refl}
use Rattle.text_words.specs.code.Word.{lane_sum, none, more}
use Rattle.text_words.specs.laws.ShortTextLaws.{holds-sum}
use Rattle.text_words.proofs.two.Goals as goal

pub returns : goal.returns
unfolding lane_sum
returns c = holds-sum _ _ (more (omega arith) (more (omega arith) none)) (omega arith) refl (omega arith)
