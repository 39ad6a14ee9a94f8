-- `next_term` meets its contract, case by case: on the fine grid the quotient by the unit, and that by k.
use mathlib.Core.Path.{◌≡◌, ap, ◌∙◌}
use Prim.Native.Nat.{ℕ, ◌+◌, ◌*◌, ◌/◌, ◌≤◌}
use native.Mathlib.Nat.{mul-le-mul, mul_comm, div-div-eq-div-mul}
use native.Mathlib.Omega.{arith}
use Rattle.number_exponential.specs.Units.{billionths, ten_trillionths, grid_of}
use Rattle.number_products.specs.laws.Units.{coarse-unit, fine-unit}
use Rattle.number_exp_ends.proofs.next_term.Goals as goal

coarse : (c : goal.In-Coarse) → (grid_of c.before.args.grid).unit ≡ billionths.unit
coarse c = coarse-unit c.in-Coarse.is

fine : (c : goal.In-Fine) → (grid_of c.before.args.grid).unit ≡ ten_trillionths.unit
fine c = fine-unit c.in-Fine.is

product : (c : goal.In-Coarse) → let s = c.before.args in s.t * s.f ≤ billionths.unit * billionths.unit
product c = let p = c.before.requires in rw (coarse c) at (mul-le-mul p.term p.rest)

two_steps : (x u k : ℕ) → x / u / k ≡ x / (k * u)
two_steps x u k = div-div-eq-div-mul x u k ∙ ap (λ (d : ℕ). x / d) (mul_comm u k)

pub product_by-requires : goal.product_by-requires
unfolding grid_of
product_by-requires c = omega (arith, fine c)

pub returns-in-Fine : goal.returns-in-Fine
unfolding grid_of
returns-in-Fine c = let s = c.before.before.args in
    rw (fine c.before, c.product_by.ensures) (two_steps (s.t * s.f + s.c) _ s.k)

pub overflow_mul-result : goal.overflow_mul-result
overflow_mul-result c = omega (arith, product c)

pub overflow_add-result : goal.overflow_add-result
overflow_add-result c = omega (arith, product c, coarse c)

pub returns-in-Coarse : goal.returns-in-Coarse
returns-in-Coarse c = rw (coarse c)
