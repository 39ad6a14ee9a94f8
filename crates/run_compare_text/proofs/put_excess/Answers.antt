-- `put_excess` meets its contract: the word, the least and the most, one right after the other.
use borrow.Author.Rules.{rules}
use mathlib.Core.List.{List, ◌++◌}
use Prim.Native.Nat.{ℕ}
use Rattle.text_tokens.specs.Text.{bytes_of}
use Rattle.text_printing.specs.code.Put.{Put}
use Rattle.text_printing.specs.laws.PutLaws.{put_of, Three, three-first, three-second, three_third, three-put}
use Rattle.run_answer_text.specs.AnswerText.{end_text}
use Rattle.run_compare_text.specs.CompareText.{excess_text}
use Rattle.run_compare_text.proofs.put_excess.Goals as goal
use Rattle.run_compare_text.proofs.put_excess.Goals.{Start}

-- ---- the texts have room, and they are written

abbrev least : Start → List ℕ
least s = bytes_of " least=" ++ end_text s.args.excess.least

abbrev most : Start → List ℕ
most s = bytes_of " most=" ++ end_text s.args.excess.most

texts : (s : Start) → Three s.args.buffer.now s.args.at s.args.word.now (least s) (most s)
unfolding excess_text
texts s = record { room = s.requires.1 }

-- ---- the needs

pub put_text-place-requires : goal.put_text-place-requires
put_text-place-requires c = (three-first (texts c.before.before.before.before)).fits

pub put_units-end-requires : goal.put_units-end-requires
unfolding bytes_of
put_units-end-requires c = (c.requires.0.least, three-second (texts c.before.before.before.before.before.before.before.before.before.before) (put_of c.put_text-place.ensures))

pub put_units-requires : goal.put_units-requires
unfolding bytes_of
put_units-requires c =
    (c.requires.0.most, three_third (texts c.before.before.before.before.before.before.before.before.before.before.before.before.before.before.before.before) (put_of c.put_text-place.ensures) c.put_units-end.ensures)

pub returns : goal.returns
unfolding excess_text bytes_of
returns c =
    three-put (texts c.before.before.before.before.before.before.before.before.before.before.before.before.before.before.before.before.before.before.before) (put_of c.put_text-place.ensures) c.put_units-end.ensures c.put_units.ensures
