-- `all_factors` meets its contract: those of the path, and after them the part's.
use Rattle.std.proofs.Common.{sym, arith}
use Rattle.number_exponential.specs.Units.{grid_of}
use Rattle.quote_factors.proofs.Parts.{path-out, no_part, part_out, with_part}
use Rattle.quote_factors.proofs.all_factors.Goals as goal

pub returns-in_err-ends : goal.returns-in_err-ends
returns-in_err-ends c =
    rw c.from_residual.ensures
    (path-out (grid_of c.args.grid) c.args.p c.args.path c.args.part (sym c.in_err-ends.ensures.ok))

pub returns-then-part-eq0 : goal.returns-then-part-eq0
returns-then-part-eq0 c =
    no_part (grid_of c.args.grid) c.args.p c.args.path c.args.part c.if-part-eq0.true c.in_ok-ends.ensures

pub returns-in_err-ends-2 : goal.returns-in_err-ends-2
returns-in_err-ends-2 c =
    rw c.from_residual-in_err-ends-2.ensures
    (part_out (grid_of c.args.grid) c.args.p c.args.path c.args.part c.if-part-eq0.false (sym c.in_err-ends-2.ensures))

pub returns : goal.returns
returns c =
    let f = c.in_ok-ends.ensures in
    with_part (grid_of c.args.grid) c.args.p c.args.path c.args.part c.if-part-eq0.false (omega (arith, f.size, c.requires.1.room c.if-part-eq0.false)) f
    (sym c.in_ok-ends-2.ensures)
