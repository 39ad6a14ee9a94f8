-- `put_five` meets its contract: five stores in a row.
use native.Mathlib.Omega.{arith}
use lib.ListN.{length-set}
use Rattle.c_sheet_quote.specs.laws.AnswerLaws.{five-put}
use Rattle.c_sheet_quote.proofs.put_five.Goals as goal

pub bounds-numbers-1 : goal.bounds-numbers-1
bounds-numbers-1 c = simp length-set (omega arith)

pub bounds-numbers-2 : goal.bounds-numbers-2
bounds-numbers-2 c = simp length-set (omega arith)

pub bounds-numbers-3 : goal.bounds-numbers-3
bounds-numbers-3 c = simp length-set (omega arith)

pub bounds-numbers-4 : goal.bounds-numbers-4
bounds-numbers-4 c = simp length-set (omega arith)

pub returns : goal.returns
returns c =
    let s = c in
    let p = s in
    five-put _ _ p.printed_number.ensures s.steps_number.ensures c.unit_number.ensures (omega (arith, p.requires))
