-- `with_factor` meets its contract: a product over the unit, rounded down and up.
use mathlib.Core.Path.{◌≡◌, ap, ap₂, ◌∙◌}
use Prim.Native.Nat.{ℕ, ◌+◌, ◌-◌, ◌*◌, ◌/◌}
use native.Mathlib.Nat.{add-zero}
use native.Mathlib.Omega.{arith}
use Rattle.number_exponential.specs.Grid.{Grid}
use Rattle.number_exponential.specs.declared.Ends.{Ends}
use Rattle.number_exponential.specs.Units.{grid_of}
use Rattle.number_exponential.specs.Outward.{outward_over}
use Rattle.number_products.specs.laws.Products.{product-up}
use Rattle.number_folds.specs.Folds.{with_factor}
use Rattle.number_folds.proofs.with_factor.Goals as goal

pub overflow_sub-up : goal.overflow_sub-up
overflow_sub-up c = omega (arith, c.unit_by-up.ensures, (grid_of c.before.args.grid).positive)

-- the two products
made : (g : Grid) (s p : Ends) (n : ℕ) {l h : ℕ} → n ≡ g.unit → l ≡ (s.lower * p.lower + 0) / g.unit
    → h ≡ (s.upper * p.upper + (n - 1)) / g.unit → record { lower = l; upper = h } ≡ with_factor g s p
unfolding with_factor outward_over
made g s p n e a b =
    ap₂ (λ (x y : ℕ). record { lower = x; upper = y }) (a ∙ ap (λ (x : ℕ). x / g.unit) (add-zero (s.lower * p.lower)))
    (b ∙ ap (λ (u : ℕ). (s.upper * p.upper + (u - 1)) / g.unit) e ∙ product-up g s.upper p.upper)

pub returns : goal.returns
returns c =
    let v = c.before.before in
    made _ _ _ v.unit_by-up.result v.unit_by-up.ensures c.before.product_by.ensures c.product_by-2.ensures
