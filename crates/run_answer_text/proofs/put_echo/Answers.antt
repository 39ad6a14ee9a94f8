-- `put_echo` meets its contract: the bytes before the last.
use borrow.Author.Rules.{rules}
use mathlib.Core.Path.{sym}
use native.Mathlib.Omega.{arith}
use lib.Seq.{length-take-le}
use Rattle.text_printing.specs.laws.PutLaws.{put_of}
use Rattle.run_answer_text.proofs.put_echo.Goals as goal

pub slice_bounds-put_text-end : goal.slice_bounds-put_text-end
slice_bounds-put_text-end c =
    let l = c.args.line.now in
    sym (length-take-le _ l (omega arith))

pub put_text-requires : goal.put_text-requires
put_text-requires c = c.requires.1.fits

pub returns : goal.returns
returns c = put_of c.put_text.ensures
