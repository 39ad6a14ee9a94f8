-- `put_shown` meets its contract: ` fig=`, and right after it the figure.
use mathlib.Core.List.{◌++◌}
use Rattle.text_tokens.specs.Text.{bytes_of}
use Rattle.text_printing.specs.code.Put.{Room, Put}
use Rattle.text_printing.specs.laws.PutLaws.{put_of, room-first, room-rest, put-join}
use Rattle.run_figure_text.specs.FigureText.{figure_text, shown_text}
use Rattle.run_figure_text.proofs.put_shown.Goals as goal

pub put_text-place-requires : goal.put_text-place-requires
unfolding bytes_of shown_text
put_text-place-requires c =
    let room : let a = c.args in Room a.buffer.now a.at (bytes_of " fig=" ++ figure_text a.decimals a.figure) = c.requires.1 in
    (room-first {t = bytes_of " fig="} _ room).fits

pub put_figure-requires : goal.put_figure-requires
unfolding shown_text bytes_of
put_figure-requires c =
    let room : let a = c.args in Room a.buffer.now a.at (bytes_of " fig=" ++ figure_text a.decimals a.figure) = c.requires.1 in
    let name : let s = c.args in Put s.buffer.now s.at (bytes_of " fig=") c.put_text-place.new.buffer c.put_text-place.result = put_of c.put_text-place.ensures in
    (c.requires.0, room-rest name room)

pub returns : goal.returns
unfolding shown_text bytes_of
returns c =
    let room : let a = c.args in Room a.buffer.now a.at (bytes_of " fig=" ++ figure_text a.decimals a.figure) = c.requires.1 in
    let name : let s = c.args in Put s.buffer.now s.at (bytes_of " fig=") c.put_text-place.new.buffer c.put_text-place.result = put_of c.put_text-place.ensures in
    put-join name c.put_figure.ensures room
