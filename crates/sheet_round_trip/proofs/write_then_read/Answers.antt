-- `write_then_read` meets its contract, from what the writer and the reader ensure.
use mathlib.Core.Path.{sym, ◌∙◌}
use lib.Seq.{length-take-le}
use Rattle.set_params.specs.code.Runs.{Whole}
use Rattle.sheet_round_trip.proofs.laws.TripLaws.{written-within, read-back}
use borrow.Author.Rules.{rules}
use Rattle.sheet_round_trip.proofs.write_then_read.Goals as goal

pub slice_bounds-read-end : goal.slice_bounds-read-end
slice_bounds-read-end c = written-within _ _ c.write-written.ensures

pub slice_bounds-read-end-2 : goal.slice_bounds-read-end-2
slice_bounds-read-end-2 c = sym (length-take-le _ _ (written-within _ _ c.write-written.ensures))

pub returns : goal.returns
returns c =
    let whole : Whole c.args.p = record { level = search rules; slope = search rules; alpha = search rules; beta = search rules } in
    let e = c.write-written.ensures in
    (c.read.ensures ∙ read-back _ whole _ e, e.1)
