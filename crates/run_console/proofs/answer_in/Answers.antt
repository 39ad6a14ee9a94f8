-- `answer_in` meets its contract: what was read stands within the bytes, and the run within its room.
use mathlib.Core.Path.{sym}
use native.Mathlib.Omega.{arith}
use lib.ListN.{length, take, length-take}
use lib.Seq.{length-take-le}
use Rattle.run.proofs.laws.IntoLaws.{front-within}
use Rattle.run.proofs.laws.RunLaws.{room_most}
use Rattle.run_console.proofs.answer_in.Goals as goal

pub put_run-end-requires : goal.put_run-end-requires
put_run-end-requires g c =
    let n = c.in-Some.len in
    let read = c.read_all.new.bytes in
    omega (arith, length-take n read, room_most c.args.program (length (take n read)))

pub slice_bounds-write_all-end : goal.slice_bounds-write_all-end
slice_bounds-write_all-end g c = front-within c.put_run-end.ensures

pub slice_bounds-write_all-end-2 : goal.slice_bounds-write_all-end-2
slice_bounds-write_all-end-2 g c = sym (length-take-le _ _ (front-within c.put_run-end.ensures))
