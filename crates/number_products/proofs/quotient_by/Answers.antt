-- `quotient_by` meets its contract, case by case.
use mathlib.Core.Path.{◌≡◌, ap}
use native.Mathlib.Omega.{arith}
use Rattle.number_exponential.specs.Units.{billionths, ten_trillionths, grid_of}
use Rattle.number_products.specs.laws.Units.{coarse-unit, fine-unit}
use Rattle.number_products.proofs.quotient_by.Goals as goal

coarse : (c : goal.In-Coarse) → (grid_of c.before.args.grid).unit ≡ billionths.unit
coarse c = coarse-unit c.in-Coarse.is

fine : (c : goal.In-Fine) → (grid_of c.before.args.grid).unit ≡ ten_trillionths.unit
fine c = fine-unit c.in-Fine.is

pub fine_quotient-requires : goal.fine_quotient-requires
fine_quotient-requires c = omega (arith, fine c)

pub returns-in-Fine : goal.returns-in-Fine
returns-in-Fine c = rw (fine c.before) c.fine_quotient.ensures

pub overflow_mul-result : goal.overflow_mul-result
overflow_mul-result c = omega (arith, coarse c)

pub overflow_add-result : goal.overflow_add-result
overflow_add-result c = omega (arith, coarse c)

pub nonzero_div-result : goal.nonzero_div-result
nonzero_div-result c = omega (arith, coarse c)

pub returns-in-Coarse : goal.returns-in-Coarse
returns-in-Coarse c = rw (coarse c)
