-- `exp_over` meets its contract: the exponent is rounded down and up, and its products fit.
use mathlib.Core.Path.{◌∙◌}
use Prim.Native.Nat.{◌*◌, ◌≤◌}
use native.Mathlib.Nat.{mul-le-mul}
use native.Mathlib.Omega.{arith}
use Rattle.number_exponential.specs.Units.{grid_of}
use Rattle.number_exponential.proofs.laws.GridFacts.{unit-most}
use Rattle.number_exponential.specs.Outward.{outward_over}
use Rattle.number_exponential.specs.Units.{grid_of}
use Rattle.model_part_year.proofs.exp_over.Goals as goal
use Rattle.model_part_year.proofs.exp_over.Tie as tie
use Rattle.model_part_year.proofs.exp_over.Lts as lts
use Rattle.model_part_year.proofs.exp_over.Reads as reads

-- both products are small
products : (s : lts.Start tie.the-claims reads.Pre reads.Post) → let f = s.args.f in let d = s.args.days in
    (f.lower * d ≤ (grid_of s.args.grid).unit * 366) × (f.upper * d ≤ (grid_of s.args.grid).unit * 366)
products s = (mul-le-mul s.requires.0 s.requires.2.days, mul-le-mul s.requires.1 s.requires.2.days)

pub overflow_mul-f : goal.overflow_mul-f
overflow_mul-f c = let s = c.before in omega (arith, products s, unit-most s.args.grid)

pub overflow_mul-f-2 : goal.overflow_mul-f-2
overflow_mul-f-2 c = let s = c.before.before in omega (arith, products s, unit-most s.args.grid)

pub ceil_div_u-requires : goal.ceil_div_u-requires
ceil_div_u-requires c =
    let s = c.before.before in
    (s.requires.2.some, omega (arith, products s, unit-most s.args.grid, s.requires.2.whole))

pub returns : goal.returns
unfolding grid_of outward_over
returns c = c.exp_between.ensures ∙ rw c.before.ceil_div_u.ensures
