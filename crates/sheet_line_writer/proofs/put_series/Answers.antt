-- `put_series` meets its contract: the four lines, one right after the other.
use borrow.Author.Rules.{rules}
use Rattle.text_tokens.specs.Text.{bytes_of}
use Rattle.sheet.specs.Sheet.{line_text, lines_text}
use Rattle.text_printing.specs.code.Put.{Put}
use Rattle.text_printing.specs.laws.PutLaws.{put-length}
use Rattle.sheet_line_writer.proofs.Four.{Four, room-one, room-two, room-three, room-four, put_four}
use Rattle.sheet_length.specs.code.Parts.{series_text}
use Rattle.sheet_length.specs.laws.Held.{SeriesHeld, series-held}
use Rattle.sheet_line_writer.proofs.Line.{line-room, line-put}
use Rattle.sheet_line_writer.proofs.put_series.Goals as goal

-- ---- the needs

pub put_line-theta-requires : goal.put_line-theta-requires
unfolding bytes_of series_text lines_text
put_line-theta-requires c =
    let values : SeriesHeld c.args.p = series-held c.args.p c.requires.0 in
    let lines : let p = c.args.p in Four c.args.buffer.now c.args.at (line_text (bytes_of "a") p.a) (line_text (bytes_of "theta") p.theta) (line_text (bytes_of "K") p.period) (line_text (bytes_of "k") p.kappa) = record { room = c.requires.1 } in
    let h = values.a in
    (h.small, line-room (bytes_of "a") h (room-one lines))

pub put_line-period-requires : goal.put_line-period-requires
unfolding bytes_of series_text lines_text
put_line-period-requires c =
    let values : SeriesHeld c.args.p = series-held c.args.p c.requires.0 in
    let lines : let p = c.args.p in Four c.args.buffer.now c.args.at (line_text (bytes_of "a") p.a) (line_text (bytes_of "theta") p.theta) (line_text (bytes_of "K") p.period) (line_text (bytes_of "k") p.kappa) = record { room = c.requires.1 } in
    let a-put : Put c.args.buffer.now c.args.at (line_text (bytes_of "a") c.args.p.a) c.put_line-theta.new.buffer c.put_line-theta.result = line-put (bytes_of "a") values.a c.put_line-theta.ensures in
    let h = values.theta in
    (h.small, line-room (bytes_of "theta") h (room-two lines a-put))

pub put_line-kappa-requires : goal.put_line-kappa-requires
unfolding bytes_of series_text lines_text
put_line-kappa-requires c =
    let values : SeriesHeld c.args.p = series-held c.args.p c.requires.0 in
    let lines : let p = c.args.p in Four c.args.buffer.now c.args.at (line_text (bytes_of "a") p.a) (line_text (bytes_of "theta") p.theta) (line_text (bytes_of "K") p.period) (line_text (bytes_of "k") p.kappa) = record { room = c.requires.1 } in
    let a-put : Put c.args.buffer.now c.args.at (line_text (bytes_of "a") c.args.p.a) c.put_line-theta.new.buffer c.put_line-theta.result = line-put (bytes_of "a") values.a c.put_line-theta.ensures in
    let theta-put : let b = c.put_line-theta in Put b.new.buffer b.result (line_text (bytes_of "theta") c.args.p.theta) c.put_line-period.new.buffer c.put_line-period.result = line-put (bytes_of "theta") values.theta c.put_line-period.ensures in
    let h = values.period in
    (h.small, line-room (bytes_of "K") h (room-three lines a-put theta-put))

pub put_line-requires : goal.put_line-requires
unfolding bytes_of series_text lines_text
put_line-requires c =
    let values : SeriesHeld c.args.p = series-held c.args.p c.requires.0 in
    let lines : let p = c.args.p in Four c.args.buffer.now c.args.at (line_text (bytes_of "a") p.a) (line_text (bytes_of "theta") p.theta) (line_text (bytes_of "K") p.period) (line_text (bytes_of "k") p.kappa) = record { room = c.requires.1 } in
    let a-put : Put c.args.buffer.now c.args.at (line_text (bytes_of "a") c.args.p.a) c.put_line-theta.new.buffer c.put_line-theta.result = line-put (bytes_of "a") values.a c.put_line-theta.ensures in
    let theta-put : let b = c.put_line-theta in Put b.new.buffer b.result (line_text (bytes_of "theta") c.args.p.theta) c.put_line-period.new.buffer c.put_line-period.result = line-put (bytes_of "theta") values.theta c.put_line-period.ensures in
    let period-put : let b = c.put_line-period in Put b.new.buffer b.result (line_text (bytes_of "K") c.args.p.period) c.put_line-kappa.new.buffer c.put_line-kappa.result = line-put (bytes_of "K") values.period c.put_line-kappa.ensures in
    let room = room-four lines a-put theta-put period-put in
    let h = values.kappa in
    (h.small, line-room (bytes_of "k") h room)

pub shape_of-buffer : goal.shape_of-buffer
unfolding series_text lines_text bytes_of
shape_of-buffer c =
    let values : SeriesHeld c.args.p = series-held c.args.p c.requires.0 in
    let lines : let p = c.args.p in Four c.args.buffer.now c.args.at (line_text (bytes_of "a") p.a) (line_text (bytes_of "theta") p.theta) (line_text (bytes_of "K") p.period) (line_text (bytes_of "k") p.kappa) = record { room = c.requires.1 } in
    let a-put : Put c.args.buffer.now c.args.at (line_text (bytes_of "a") c.args.p.a) c.put_line-theta.new.buffer c.put_line-theta.result = line-put (bytes_of "a") values.a c.put_line-theta.ensures in
    let theta-put : let b = c.put_line-theta in Put b.new.buffer b.result (line_text (bytes_of "theta") c.args.p.theta) c.put_line-period.new.buffer c.put_line-period.result = line-put (bytes_of "theta") values.theta c.put_line-period.ensures in
    let period-put : let b = c.put_line-period in Put b.new.buffer b.result (line_text (bytes_of "K") c.args.p.period) c.put_line-kappa.new.buffer c.put_line-kappa.result = line-put (bytes_of "K") values.period c.put_line-kappa.ensures in
    let kappa-put : let b = c.put_line-kappa in Put b.new.buffer b.result (line_text (bytes_of "k") c.args.p.kappa) c.put_line.new.buffer c.put_line.result = line-put (bytes_of "k") values.kappa c.put_line.ensures in
    let whole : let s = c.args in Put s.buffer.now s.at (series_text s.p) c.put_line.new.buffer c.put_line.result = put_four lines a-put theta-put period-put kappa-put in
    put-length whole c.requires.1

pub returns : goal.returns
unfolding series_text lines_text bytes_of
returns c =
    let values : SeriesHeld c.args.p = series-held c.args.p c.requires.0 in
    let lines : let p = c.args.p in Four c.args.buffer.now c.args.at (line_text (bytes_of "a") p.a) (line_text (bytes_of "theta") p.theta) (line_text (bytes_of "K") p.period) (line_text (bytes_of "k") p.kappa) = record { room = c.requires.1 } in
    let a-put : Put c.args.buffer.now c.args.at (line_text (bytes_of "a") c.args.p.a) c.put_line-theta.new.buffer c.put_line-theta.result = line-put (bytes_of "a") values.a c.put_line-theta.ensures in
    let theta-put : let b = c.put_line-theta in Put b.new.buffer b.result (line_text (bytes_of "theta") c.args.p.theta) c.put_line-period.new.buffer c.put_line-period.result = line-put (bytes_of "theta") values.theta c.put_line-period.ensures in
    let period-put : let b = c.put_line-period in Put b.new.buffer b.result (line_text (bytes_of "K") c.args.p.period) c.put_line-kappa.new.buffer c.put_line-kappa.result = line-put (bytes_of "K") values.period c.put_line-kappa.ensures in
    let kappa-put : let b = c.put_line-kappa in Put b.new.buffer b.result (line_text (bytes_of "k") c.args.p.kappa) c.put_line.new.buffer c.put_line.result = line-put (bytes_of "k") values.kappa c.put_line.ensures in
    let whole : let s = c.args in Put s.buffer.now s.at (series_text s.p) c.put_line.new.buffer c.put_line.result = put_four lines a-put theta-put period-put kappa-put in
    whole
