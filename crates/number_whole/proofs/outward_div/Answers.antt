-- `outward_div` meets its contract: the ceiling for an upper end, the floor for a lower one.
use mathlib.Core.Path.{◌≡◌}
use mathlib.Core.Bool.{true, false}
use mir.Facts.{to_z-of_z}
use Rattle.number_whole.proofs.Signed.{read-floor, read-ceil}
use Rattle.number_whole.proofs.outward_div.Goals as goal

pub ceil_div-requires : goal.ceil_div-requires
ceil_div-requires c = let s = c.before in rw (to_z-of_z s.ranges.z) s.requires

pub returns-then-upper : goal.returns-then-upper
returns-then-upper c =
    let s = c.before.before in
    let t : s.args.upper ≡ true = c.before.if-upper.true in
    rw t (read-ceil _ (to_z-of_z s.ranges.z) s.ranges.z c.ceil_div.ensures)

pub floor_div-requires : goal.floor_div-requires
floor_div-requires c = let s = c.before in rw (to_z-of_z s.ranges.z) s.requires

pub returns : goal.returns
returns c =
    let s = c.before.before in
    let t : s.args.upper ≡ false = c.before.if-upper.false in
    rw t (read-floor _ (to_z-of_z s.ranges.z) s.ranges.z c.floor_div.ensures)
