-- `put_run` meets its contract: the run of lines, or the verdict's line.
use borrow.Author.Rules.{rules}
use mathlib.Core.Path.{◌≡◌, sym, ap, subst}
use Prim.Native.Nat.{ℕ, ◌≤◌}
use lib.ListN.{length}
use Rattle.text_printing.specs.laws.PutLaws.{put_as}
use Rattle.run.specs.declared.Program.{Program}
use Rattle.run.specs.Run.{run_of, run_room}
use Rattle.run.proofs.put_run.Goals as goal

-- the room, of the program that was matched
room : {program p : Program} (input out : ℕ) → program ≡ p → run_room program input ≤ out → run_room p input ≤ out
room input out e h = subst (λ (q : Program). run_room q input ≤ out) e h

pub put_lines-requires : goal.put_lines-requires
unfolding run_room
put_lines-requires c = room (length c.args.input.now) (length c.args.out.now) c.in-Lines.is c.requires

pub put_verdict-requires : goal.put_verdict-requires
unfolding run_room
put_verdict-requires c = room (length c.args.input.now) (length c.args.out.now) c.in-Verdict.is c.requires

pub returns-in-Lines : goal.returns-in-Lines
unfolding run_of
returns-in-Lines c =
    let p = c in
    let s = p.args in
    put_as (sym (ap (λ (q : Program). run_of q s.input.now) p.in-Lines.is)) c.put_lines.ensures

pub returns-in-Verdict : goal.returns-in-Verdict
unfolding run_of
returns-in-Verdict c =
    let t = c in
    let s = t.args in
    put_as (sym (ap (λ (q : Program). run_of q s.input.now) t.in-Verdict.is))
    c.put_verdict.ensures
