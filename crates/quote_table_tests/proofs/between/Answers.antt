-- `between` meets its contract by the two tests.
use mir.Facts.{to_z-of_z}
use Rattle.number_whole.proofs.laws.OrderTests.{below-not-least, not-below-least}
use Rattle.quote_table_tests.proofs.between.Goals as goal

pub returns-then-v-low : goal.returns-then-v-low
returns-then-v-low c =
    let s = c.before in
    let f = s.ranges in
    let e = below-not-least s.args.v s.args.low (rw (to_z-of_z f.v, to_z-of_z f.low) at c.if-v-low.true) in
    rw e

pub returns : goal.returns
returns c =
    let s = c.before in
    let f = s.ranges in
    let e = not-below-least s.args.v s.args.low (rw (to_z-of_z f.v, to_z-of_z f.low) at c.if-v-low.false) in
    rw (e, to_z-of_z f.v, to_z-of_z f.high)
