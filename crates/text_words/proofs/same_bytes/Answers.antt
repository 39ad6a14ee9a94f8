-- `same_bytes` meets its contract: shifted to the top, only the first n bytes of each word are left.
use native.Mathlib.Omega.{arith}
use Rattle.text_words.specs.laws.ShortTextLaws.{shift-tells}
use Rattle.text_words.proofs.same_bytes.Goals as goal

pub returns : goal.returns
returns c = shift-tells _ _ _ (omega arith)
