-- `quotient` meets its contract: the ceiling for an upper end, the floor for a lower one.
use borrow.Author.Rules.{rules}
use mathlib.Core.Path.{ap, ◌∙◌}
use Prim.Native.Nat.{ℕ, ◌*◌, ◌/◌, ◌<◌}
use native.Mathlib.Nat.{add-zero}
use native.Mathlib.Omega.{arith}
use Rattle.number_exponential.specs.Grid.{Grid}
use Rattle.number_exponential.specs.Units.{grid_of}
use Rattle.number_products.specs.laws.Products.{quotient-up}
use Rattle.model_logistic.proofs.quotient.Goals as goal
use Rattle.model_logistic.proofs.quotient.Goals.{Start}

-- the divisor is some units
divisor : (s : Start) → 0 < s.args.d
divisor s = omega (arith, s.requires.1, (grid_of s.args.grid).positive)

pub returns-then-upper : goal.returns-then-upper
returns-then-upper c =
    let t = c.before in
    let s = t.before in
    rw t.if-upper.true (c.quotient_by.ensures ∙ quotient-up (grid_of s.args.grid) s.args.n s.args.d)

pub returns : goal.returns
returns c =
    let t = c.before in
    let s = t.before in
    rw t.if-upper.false (c.quotient_by-2.ensures ∙ ap (λ (n : ℕ). n / s.args.d) (add-zero (s.args.n * (grid_of s.args.grid).unit)))

pub overflow_sub-d : goal.overflow_sub-d
overflow_sub-d c = divisor c.before

pub quotient_by-requires : goal.quotient_by-requires
quotient_by-requires c = let s = c.before in (s.requires.0, s.requires.1, s.requires.2, omega (arith, divisor s))

pub quotient_by-requires-2 : goal.quotient_by-requires-2
quotient_by-requires-2 c = let s = c.before in (s.requires.0, s.requires.1, s.requires.2, divisor s)
