-- `bytes_of` meets its contract: what is left of the word by 256 again and again is what is left by its powers.
use mathlib.Core.Path.{◌∙◌}
use Rattle.std.proofs.Math.Nat.{div-div-eq-div-mul}
use Rattle.text_words.specs.code.Word.{lanes}
use Rattle.text_words.proofs.bytes_of.Goals as goal

pub returns : goal.returns
unfolding lanes
returns c = c.to_le_bytes.ensures ∙ simp div-div-eq-div-mul
