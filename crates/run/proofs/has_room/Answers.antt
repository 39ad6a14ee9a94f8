-- `has_room` meets its contract: room for the answers to any lines, or for the one line.
use borrow.Author.Rules.{rules}
use mathlib.Core.Path.{sym, ap, ◌∙◌}
use Prim.Native.Nat.{ℕ, ◌+◌, ◌*◌}
use lib.Dec.{leb}
use Rattle.run.specs.declared.Program.{Program}
use Rattle.run.specs.Run.{run_room}
use Rattle.run.proofs.has_room.Goals as goal

pub returns-in-Lines : goal.returns-in-Lines
unfolding run_room
returns-in-Lines c =
    let l = c in
    let p = l in
    let s = p.args in
    c.fits.ensures ∙ ap (λ (n : ℕ). leb (5 * s.input + n) s.room) l.longest_line.ensures
    ∙ sym (ap (λ (q : Program). leb (run_room q s.input) s.room) p.in-Lines.is)

pub returns-in-Verdict : goal.returns-in-Verdict
unfolding run_room
returns-in-Verdict c =
    let s = c.args in
    sym (ap (λ (q : Program). leb (run_room q s.input) s.room) c.in-Verdict.is)
