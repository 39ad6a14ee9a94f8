-- `kulfizan_run` meets its contract: what the run answers, with its length told.
use borrow.Author.Rules.{rules}
use mathlib.Core.Path.{refl}
use Rattle.kulfizan.specs.Run.{program_of}
use Rattle.kulfizan.proofs.laws.RunLaws.{run-told}
use Rattle.kulfizan.proofs.kulfizan_run.Goals as goal

pub returns : goal.returns
unfolding program_of
returns c =
    let m = run-told c.args.input.now c.args.ends c.args.out.now c.args.len.now refl c.run.ensures
    (c.tell.ensures.value, c.tell.ensures.len_after) in
    record { value = m.0; out_after = m.1.0; len_after = m.1.1 }
