-- `next_up` meets its contract: the product of two numbers of at most the unit is at most its square.
use mathlib.Core.Path.{◌≡◌, ◌∙◌, ap}
use Prim.Native.Nat.{ℕ, ◌+◌, ◌-◌, ◌*◌, ◌/◌, ◌≤◌}
use native.Mathlib.Nat.{mul-le-mul}
use native.Mathlib.Omega.{arith}
use Rattle.number_whole.specs.Division.{ceil_div_ℕ}
use Rattle.number_whole.proofs.laws.DivisionLaws.{ceilℕ-least}
use Rattle.number_exponential.specs.Grid.{Grid}
use Rattle.number_exponential.specs.Units.{grid_of}
use Rattle.number_products.specs.laws.Products.{product-up}
use Rattle.model_logarithm.proofs.next_up.Goals as goal

up : (g : Grid) (x y : ℕ) {v r : ℕ} → x ≤ g.unit → y ≤ g.unit → v ≡ g.unit → r ≡ (x * y + (v - 1)) / g.unit
    → (r ≡ ceil_div_ℕ (x * y) g.unit) × (r ≤ g.unit)
up g x y h k v e =
    let d = e ∙ ap (λ (n : ℕ). (x * y + (n - 1)) / g.unit) v ∙ product-up g x y in
    (d, rw d (ceilℕ-least g.unit _ g.positive (mul-le-mul h k)))

pub overflow_sub-unit_by : goal.overflow_sub-unit_by
overflow_sub-unit_by c = omega (arith, c.unit_by.ensures, (grid_of c.before.args.grid).positive)

pub returns : goal.returns
returns c =
    let o = c.before in
    let s = o.before in up (grid_of s.args.grid) _ _ s.requires.0 s.requires.1 o.unit_by.ensures c.product_by.ensures

pub product_by-requires : goal.product_by-requires
product_by-requires c = omega (arith, c.unit_by.ensures)
