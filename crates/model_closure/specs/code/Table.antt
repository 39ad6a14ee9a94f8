-- A table of rows of weights against "the rule and row total": what the table's contract says beside the rule.
use Rattle.std.specs.Prelude.{ℕ, suc, ◌-◌, List, [], ◌∷◌, map, ℤ, pos, ◌+ℤ◌}
use Rattle.number_whole.specs.Listed.{listed}
use Rattle.model_closure.specs.Weights.{fitted, first_closed, last_closed, weight_unit, weight}

-- how many ages are closed
abbrev pub closed : ℕ
closed = suc last_closed - first_closed

-- of all fitted ages at age x
unfoldable pub weight_row : ℕ → List ℤ
weight_row x = listed (weight x) 0 fitted

-- a row with its total beside it
pub record Totalled : Type 0 where
  pub row : List ℤ
  pub total : ℤ

unfoldable pub row_total : List ℤ → ℤ
row_total [] = pos 0
row_total (w ∷ ws) = w +ℤ row_total ws

unfoldable pub beside : List ℤ → Totalled
beside row = record { row = row; total = row_total row }

unfoldable pub totalled : List (List ℤ) → List Totalled
totalled rows = map beside rows

-- at each of the ages 91 to 120 the rule's row, and "Each age's eleven weights total 110"
unfoldable pub ruled : List Totalled
ruled = listed (λ x. record { row = weight_row x; total = pos weight_unit }) first_closed closed
