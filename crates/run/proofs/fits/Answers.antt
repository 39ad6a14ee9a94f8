-- `fits` meets its contract: room for the longest line, and for five bytes for each of the input's beside it.
use mathlib.Core.Path.{◌≡◌, sym, ◌∙◌}
use Prim.Native.Nat.{ℕ, ◌+◌, ◌-◌, ◌*◌, ◌/◌, ◌≤◌}
use native.Mathlib.Decide.{dec_lt}
use native.Mathlib.Omega.{arith}
use borrow.Author.Tests.{le-leb, lt-leb}
use lib.Dec.{leb}
use Rattle.run.proofs.fits.Goals as goal

-- the two tests are one
same : (input room longest : ℕ) → longest ≤ room → leb input ((room - longest) / 5) ≡ leb (5 * input + longest) room
same input room longest h = elim (dec_lt room (5 * input + longest)) [
  | yes l ↦ lt-leb input ((room - longest) / 5) (omega arith) ∙ sym (lt-leb (5 * input + longest) room l)
  | no l ↦ le-leb input ((room - longest) / 5) (omega arith) ∙ sym (le-leb (5 * input + longest) room (omega arith))
]

pub returns-then-room-longest : goal.returns-then-room-longest
returns-then-room-longest c =
    let s = c.args in
    sym (lt-leb (5 * s.input + s.longest) s.room (omega arith))

pub returns : goal.returns
returns c =
    let s = c.args in
    same s.input s.room s.longest (omega arith)
