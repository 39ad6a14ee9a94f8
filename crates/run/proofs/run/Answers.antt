-- `run` meets its contract: short, or the whole run.
use mathlib.Core.Bool.{not}
use mathlib.Core.Path.{ap}
use borrow.Author.Rules.{rules}
use mathlib.Core.Path.{◌≡◌, sym, ◌∙◌}
use Prim.Native.Nat.{◌≤◌}
use borrow.Author.Tests.{not-true, not-false, leb-true, leb-false}
use lib.ListN.{length}
use Rattle.run.specs.Run.{run_of, run_room}
use Rattle.run.proofs.laws.IntoLaws.{into-short, into-put}
use Rattle.run.proofs.run.Goals as goal

pub returns-then-not-has_room : goal.returns-then-not-has_room
returns-then-not-has_room c =
    let s = c.args in
    let h = c.has_room in
    into-short (run_room s.program (length s.input.now)) (run_of s.program s.input.now) s.out.now
    (leb-false _ _ (sym h.ensures ∙ not-true h.result (ap not c.if-not-has_room.true)))

-- past the test there is room
pub put_run-len-requires : goal.put_run-len-requires
put_run-len-requires c =
    let h = c.has_room in
    leb-true _ _ (sym h.ensures ∙ not-false h.result (ap not c.if-not-has_room.false))

pub returns : goal.returns
returns c =
    let s = c.args in
    let h = c.has_room in
    into-put (run_room s.program (length s.input.now)) (run_of s.program s.input.now) s.out.now
    (leb-true _ _ (sym h.ensures ∙ not-false h.result (ap not c.if-not-has_room.false))) c.put_run-len.ensures
