-- `over` meets its contract, case by case: each cast keeps its number.
use mathlib.Core.Path.{◌≡◌, ap}
use native.Mathlib.Nat.{div-le_self}
use native.Mathlib.Omega.{arith}
use Rattle.number_exponential.specs.Units.{billionths, grid_of}
use Rattle.number_products.specs.laws.Units.{coarse-unit}
use Rattle.model_logarithm.proofs.over.Goals as goal

coarse : (c : goal.In-Coarse) → (grid_of c.before.args.grid).unit ≡ billionths.unit
coarse c = coarse-unit c.in-Coarse.is

pub overflow_cast-result : goal.overflow_cast-result
overflow_cast-result c = omega (arith, coarse c)

pub overflow_cast-result-in-Coarse-2 : goal.overflow_cast-result-in-Coarse-2
overflow_cast-result-in-Coarse-2 c = omega (arith, coarse c, div-le_self c.before.args.power c.before.args.place)
