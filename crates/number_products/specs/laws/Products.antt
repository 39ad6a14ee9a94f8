-- A product over a grid's unit, and a quotient of a product with it, rounded up: what is added is one less than the divisor.
use Rattle.std.specs.Prelude.{◌≡◌, refl, ℕ, ◌+◌, ◌-◌, ◌*◌, ◌/◌}
use Rattle.number_whole.specs.Division.{ceil_div_ℕ}
use Rattle.number_exponential.specs.Grid.{Grid}

pub product-up : (g : Grid) (a b : ℕ) → (a * b + (g.unit - 1)) / g.unit ≡ ceil_div_ℕ (a * b) g.unit
unfolding ceil_div_ℕ
product-up g a b = refl

pub quotient-up : (g : Grid) (n d : ℕ) → (n * g.unit + (d - 1)) / d ≡ ceil_div_ℕ (n * g.unit) d
unfolding ceil_div_ℕ
quotient-up g n d = refl
