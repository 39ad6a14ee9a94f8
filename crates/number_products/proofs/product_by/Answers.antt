-- `product_by` meets its contract, case by case.
use mathlib.Core.Path.{◌≡◌, ap}
use Prim.Native.Nat.{◌*◌, ◌≤◌}
use native.Mathlib.Nat.{mul-le-mul}
use native.Mathlib.Omega.{arith}
use Rattle.number_exponential.specs.Grid.{Grid}
use Rattle.number_exponential.specs.Units.{billionths, ten_trillionths, grid_of}
use Rattle.number_products.specs.laws.Units.{coarse-unit, fine-unit}
use Rattle.number_products.proofs.product_by.Goals as goal

coarse : (c : goal.In-Coarse) → (grid_of c.before.args.grid).unit ≡ billionths.unit
coarse c = coarse-unit c.in-Coarse.is

fine : (c : goal.In-Fine) → (grid_of c.before.args.grid).unit ≡ ten_trillionths.unit
fine c = fine-unit c.in-Fine.is

product : (c : goal.In-Coarse) → let s = c.before.args in s.a * s.b ≤ billionths.unit * billionths.unit
product c = let p = c.before.requires in rw (coarse c) at (mul-le-mul p.0 p.1)

pub fine_product-requires : goal.fine_product-requires
fine_product-requires c = omega (arith, fine c)

pub returns-in-Fine : goal.returns-in-Fine
returns-in-Fine c = rw (fine c.before) c.fine_product.ensures

pub overflow_mul-result : goal.overflow_mul-result
overflow_mul-result c = omega (arith, product c)

pub overflow_add-result : goal.overflow_add-result
overflow_add-result c = omega (arith, product c, coarse c)

pub returns-in-Coarse : goal.returns-in-Coarse
returns-in-Coarse c = rw (coarse c)
